-- What is printed of refusals, setpoints, terms, special slots and bytes, byte for byte. A whole number is printed as std writes it: `decimal`, and with a sign `signed_decimal`.
use Rattle.std.specs.Prelude.{ℕ, ◌^◌, ◌-◌, false, List, [], ◌++◌, ℤ, codes}
use Rattle.std.specs.Fmt.{decimal, signed_decimal, digits, padded_integral, format_spec}
use Rattle.refusals.specs.declared.Refusal.{Refusal}
use Rattle.refusals.specs.Rows.{row}

-- the line of a text that is turned away: `refused`, a space, the number of the refusal, and byte 10
abbrev pub refusal_text : Refusal → List ℕ
refusal_text refusal = codes "refused " ++ decimal (row refusal) ++ codes "\n"

-- a setpoint after a space
abbrev pub setpoint_text : ℤ → List ℕ
setpoint_text setpoint = codes " " ++ signed_decimal setpoint

-- a term after a space, as node:value
abbrev pub term_text : ℕ → ℤ → List ℕ
term_text node value = codes " " ++ decimal node ++ codes ":" ++ signed_decimal value

-- a special slot after a space, as slot:band
abbrev pub special_text : ℕ → ℕ → List ℕ
special_text slot band = codes " " ++ decimal slot ++ codes ":" ++ decimal band

-- a byte in hexadecimal after a space, in two digits as std's `{:02x}` writes it
abbrev pub byte_text : ℕ → List ℕ
byte_text byte = codes " " ++ padded_integral (format_spec 32 0 4 2 (2 ^ 64 - 1)) false [] (digits 16 false byte)
