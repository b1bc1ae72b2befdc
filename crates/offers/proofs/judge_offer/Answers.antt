-- `offers::judge_offer` meets its contract: each way out is a case of `Candidates`.
use Rattle.std.proofs.Common.{◌≡◌, true, false, length, sym, ◌∙◌, rules, to_z-of_z, w32, SFits, Ok, None, is_ok}
use lib.Seq.{length-take-le}
use Rattle.bands.specs.Bands.{same_bands}
use Rattle.record.specs.Record.{bands_in}
use Rattle.record_read.proofs.Accepted as Accepted
use Rattle.offers.specs.Inner.{header_is_for}
use Rattle.offers.proofs.Candidates as Candidates
use Rattle.offers.proofs.judge_offer.Goals as goal

pub returns-then-not-is_for : goal.returns-then-not-is_for
returns-then-not-is_for c =
    let args = c.args in
    let right : c.read_into_room.result ≡ Ok c.in_ok-header.header = search rules in
    let other : header_is_for c.in_ok-header.header (length args.setpoints.now) args.numbers.rest args.numbers.band ≡ false = search rules in
    Candidates.for_another args.setpoints.now args.numbers.rest args.numbers.band args.bands.now c.read_into_room.ensures right other

pub slice_bounds-own-end : goal.slice_bounds-own-end
slice_bounds-own-end c =
    let right : c.read_into_room.result ≡ Ok c.in_ok-header.header = search rules in
    Accepted.in_bands c.read_into_room.ensures right

pub slice_bounds-have_same_bands-end : goal.slice_bounds-have_same_bands-end
slice_bounds-have_same_bands-end c =
    let right : c.read_into_room.result ≡ Ok c.in_ok-header.header = search rules in
    sym (length-take-le _ _ (Accepted.in_bands c.read_into_room.ensures right))

pub have_same_bands-requires : goal.have_same_bands-requires
have_same_bands-requires c =
    let args = c.args in
    let right : c.read_into_room.result ≡ Ok c.in_ok-header.header = search rules in
    let own : header_is_for c.in_ok-header.header (length args.setpoints.now) args.numbers.rest args.numbers.band ≡ true = search rules in
    rw (Candidates.room_bands args.setpoints.now args.numbers.rest args.numbers.band args.bands.now c.read_into_room.ensures right own)
    (Candidates.same_common args.setpoints.now args.numbers.rest args.numbers.band args.bands.now c.read_into_room.ensures right own c.requires)

pub returns-then-not-have_same_bands : goal.returns-then-not-have_same_bands
returns-then-not-have_same_bands c =
    let args = c.args in
    let right : c.read_into_room.result ≡ Ok c.in_ok-header.header = search rules in
    let own : header_is_for c.in_ok-header.header (length args.setpoints.now) args.numbers.rest args.numbers.band ≡ true = search rules in
    let room = Candidates.room_bands args.setpoints.now args.numbers.rest args.numbers.band args.bands.now c.read_into_room.ensures right own in
    let bands = rw room at c.have_same_bands.ensures in
    Candidates.other_bands args.setpoints.now args.numbers.rest args.numbers.band args.bands.now c.read_into_room.ensures right own (sym bands ∙ c.if-not-have_same_bands.true)

pub judge_record-requires : goal.judge_record-requires
judge_record-requires c =
    let args = c.args in
    let right : c.read_into_room.result ≡ Ok c.in_ok-header.header = search rules in
    let own : header_is_for c.in_ok-header.header (length args.setpoints.now) args.numbers.rest args.numbers.band ≡ true = search rules in
    Candidates.judgeable args.setpoints.now args.numbers.rest args.numbers.band args.bands.now c.read_into_room.ensures right own c.requires

pub returns-in_err-kept : goal.returns-in_err-kept
returns-in_err-kept c =
    let args = c.args in
    let right : c.read_into_room.result ≡ Ok c.in_ok-header.header = search rules in
    let own : header_is_for c.in_ok-header.header (length args.setpoints.now) args.numbers.rest args.numbers.band ≡ true = search rules in
    let room = Candidates.room_bands args.setpoints.now args.numbers.rest args.numbers.band args.bands.now c.read_into_room.ensures right own in
    let bands = rw room at c.have_same_bands.ensures in
    let is : c.from_residual-in_err-kept.result ≡ None = search rules in
    let fails : is_ok c.judge_record.result ≡ false = search rules in
    rw is (Candidates.not_kept args.setpoints.now args.numbers.rest args.numbers.band args.bands.now c.read_into_room.ensures right own (sym bands ∙ c.if-not-have_same_bands.false) c.judge_record.ensures fails)

pub returns : goal.returns
returns c =
    let args = c.args in
    let right : c.read_into_room.result ≡ Ok c.in_ok-header.header = search rules in
    let own : header_is_for c.in_ok-header.header (length args.setpoints.now) args.numbers.rest args.numbers.band ≡ true = search rules in
    let room = Candidates.room_bands args.setpoints.now args.numbers.rest args.numbers.band args.bands.now c.read_into_room.ensures right own in
    let bands = rw room at c.have_same_bands.ensures in
    let kept : c.judge_record.result ≡ Ok c.in_ok-kept.kept = search rules in
    Candidates.candidate args.setpoints.now args.numbers.rest args.numbers.band args.bands.now c.read_into_room.ensures right own (sym bands ∙ c.if-not-have_same_bands.false) c.judge_record.ensures kept
