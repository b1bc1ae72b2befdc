-- Laws of `replaced_at`: a field written next to what is laid already is laid too, and one written within a part leaves the other parts.
use mathlib.Core.Path.{◌≡◌, sym, ap, ap₂, ◌∙◌}
use mathlib.Core.List.{List, ◌++◌, append_assoc}
use Prim.Native.Nat.{ℕ, ◌+◌, ◌^◌, ◌≤◌, ◌<◌}
use native.Mathlib.Nat.{add_assoc}
use native.Mathlib.Omega.{arith}
use lib.ListN.{length, take, drop, length-append, length-take, length-drop}
use lib.Seq.{take_at, take-append-le, drop-append-le, take-append-add, drop-append-add, drop-drop, length-take-le}
use Rattle.bits.specs.Bits.{bits, bits_of, field_at, replaced_at}
use Rattle.bits.proofs.Bytes.{field_of_laid}

pub length_replaced : (place : ℕ) (field before : List ℕ) → place + length field ≤ length before → length (replaced_at place field before) ≡ length before
length_replaced place field before fits = simp (length-append, length-take, length-drop) (omega arith)

-- so a number is read back from where it was written
pub written_reads_back : (bytes before : List ℕ) (place width number : ℕ) → place ≤ length before → number < 2 ^ width → bits_of bytes ≡ replaced_at place (bits width number) before
    → field_at bytes place width ≡ number
written_reads_back bytes before place width number inside fits written =
    field_of_laid bytes (take place before) (drop (place + length (bits width number)) before) place width number (length-take-le place before inside) fits written

-- one field after another
pub replaced_next : (place : ℕ) (field front rest : List ℕ) → length front ≡ place
    → replaced_at place field (front ++ drop place rest) ≡ (front ++ field) ++ drop (place + length field) rest
replaced_next place field front rest at_place =
    let beyond : drop (place + length field) (front ++ drop place rest) ≡ drop (place + length field) rest =
    ap (λ (n : ℕ). drop (n + length field) (front ++ drop place rest)) (sym at_place)
    ∙ drop-append-add front (drop place rest) (length field)
    ∙ drop-drop (length field) place rest in
    ap₂ (λ (l m : List ℕ). l ++ (field ++ m)) (take_at front (drop place rest) place at_place) beyond
    ∙ sym (append_assoc front field (drop (place + length field) rest))

-- within the first part
pub replaced_in_front : (place : ℕ) (field front back : List ℕ) → place + length field ≤ length front
    → replaced_at place field (front ++ back) ≡ replaced_at place field front ++ back
replaced_in_front place field front back fits =
    ap₂ (λ (l m : List ℕ). l ++ (field ++ m)) (take-append-le place front back (omega arith)) (drop-append-le (place + length field) front back fits)
    ∙ ap (λ (l : List ℕ). take place front ++ l) (sym (append_assoc field (drop (place + length field) front) back))
    ∙ sym (append_assoc (take place front) (field ++ drop (place + length field) front) back)

-- within the second part
pub replaced_behind : (place : ℕ) (field front back : List ℕ)
    → replaced_at (length front + place) field (front ++ back) ≡ front ++ replaced_at place field back
replaced_behind place field front back =
    let beyond : drop (length front + place + length field) (front ++ back) ≡ drop (place + length field) back =
    ap (λ (n : ℕ). drop n (front ++ back)) (add_assoc (length front) place (length field)) ∙ drop-append-add front back (place + length field) in
    ap₂ (λ (l m : List ℕ). l ++ (field ++ m)) (take-append-add front back place) beyond
    ∙ append_assoc front (take place back) (field ++ drop (place + length field) back)

-- two fields written one behind the other are one field
pub replaced_both : (place next : ℕ) (first second before : List ℕ) → place ≤ length before → place + length first ≡ next
    → replaced_at next second (replaced_at place first before) ≡ replaced_at place (first ++ second) before
replaced_both place next first second before inside follows =
    let front : List ℕ = take place before ++ first in
    let front_long : length front ≡ next = simp length-append (omega (arith, length-take-le place before inside)) in
    let further : next + length second ≡ place + length (first ++ second) = simp length-append (omega arith) in
    ap (λ (l : List ℕ). replaced_at next second (take place before ++ (first ++ l))) (ap (λ (k : ℕ). drop k before) follows)
    ∙ ap (λ (l : List ℕ). replaced_at next second l) (sym (append_assoc (take place before) first (drop next before)))
    ∙ replaced_next next second front before front_long
    ∙ ap (λ (k : ℕ). (front ++ second) ++ drop k before) further
    ∙ simp append_assoc
