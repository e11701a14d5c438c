-- Reading a call line field by field. Assumes nothing.
use Rattle.std.specs.Prelude.{◌≡◌, ℕ, zero, suc, ◌+◌, ◌-◌, ◌*◌, cond, ◌&&◌, List, [], ◌∷◌, ℤ, pos, negsuc, Some, None, Option, ◌==◌, nat_le, nat_lt}
use Rattle.std.specs.Option.{option_map}
use Rattle.numerals.specs.Fields.{cut}
use Rattle.numerals.specs.Numerals.{is_number, value_of}
use Rattle.noninterference.specs.Monitor.{Call, lay, view, run}
use Rattle.console.specs.Calls.{Says, InRange, spelled}

-- what is found, read on
abbrev pub and_then : {A B : Type 0} → Option A → (A → Option B) → Option B
and_then None f = None
and_then (Some x) f = f x

abbrev pub number_below : ℕ → List ℕ → Option ℕ
number_below limit field = cond (is_number field && nat_lt (value_of field) limit) (Some (value_of field)) None

-- minus the number; there is no minus before 0
abbrev pub below_zero : ℕ → Option ℤ
below_zero zero = None
below_zero (suc n) = Some (negsuc n)

-- the value whose digits stand after a minus: -2147483648 is the least
abbrev pub value_after_minus : List ℕ → Option ℤ
value_after_minus digits = and_then (number_below 2147483649 digits) below_zero

abbrev pub value_in : List ℕ → Option ℤ
value_in [] = None
value_in (b ∷ bs) = cond (b == 45) (value_after_minus bs) (option_map pos (number_below 2147483648 (b ∷ bs)))

-- the number that a hexadecimal digit stands for
abbrev pub figure : ℕ → Option ℕ
figure b = cond (nat_le 48 b && nat_le b 57) (Some (b - 48)) (cond (nat_le 97 b && nat_le b 102) (Some (b - 87)) None)

abbrev pub byte_of : ℕ → ℕ → Option ℕ
byte_of high low = and_then (figure high) (λ h. and_then (figure low) (λ l. Some (h * 16 + l)))

abbrev pub bytes_in : List ℕ → Option (List ℕ)
bytes_in [] = Some []
bytes_in (high ∷ []) = None
bytes_in (high ∷ low ∷ rest) = and_then (byte_of high low) (λ b. option_map (λ bs. b ∷ bs) (bytes_in rest))

-- what stands after the letter and its comma
abbrev pub lay_in : List ℕ → Option Call
lay_in text =
    and_then (cut text) (λ a. and_then (cut a.1) (λ b. and_then (number_below 256 a.0) (λ n.
    and_then (number_below 256 b.0) (λ i. option_map (lay n i) (value_in b.1)))))

abbrev pub view_in : List ℕ → Option Call
view_in text =
    and_then (cut text) (λ a. and_then (number_below 256 a.0) (λ n. option_map (view n) (number_below 256 a.1)))

-- the person, the turns and the digits of the sheet
abbrev pub run_fields : List ℕ → Option (ℕ × ℕ × List ℕ)
run_fields text =
    and_then (cut text) (λ a. and_then (cut a.1) (λ b. and_then (number_below 256 a.0) (λ n.
    option_map (λ turns. (n, turns, b.1)) (number_below 65536 b.0))))

abbrev pub run_in : List ℕ → Option Call
run_in text = and_then (run_fields text) (λ f. option_map (λ sheet. run f.0 sheet f.1) (bytes_in f.2))

abbrev pub by_letter : ℕ → List ℕ → Option Call
by_letter letter text =
    cond (letter == 76) (lay_in text) (cond (letter == 86) (view_in text) (cond (letter == 82) (run_in text) None))

-- a letter, a comma and fields
abbrev pub call_in : List ℕ → Option Call
call_in [] = None
call_in (letter ∷ []) = None
call_in (letter ∷ comma ∷ text) = cond (comma == 44) (by_letter letter text) None

-- a line is read as the call that it spells, and as none where it spells none
pub record ReadingStands : Type 0 where
  pub read : (line : List ℕ) → Says line (call_in line)
  -- no line spells two calls
  pub one : (c d : Call) → InRange c → InRange d → spelled c ≡ spelled d → c ≡ d
