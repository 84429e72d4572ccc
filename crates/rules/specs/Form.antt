-- "The two files": the form of operators and scripts. The first fault in byte order wins, since each field is read only where those before it were in form.
use Rattle.std.specs.Prelude.{Option, Result, Bool, true, false, cond, ◌&&◌, ◌||◌, List, ℕ, zero, suc, ◌+◌, ◌-◌, ◌*◌, eqb, ltb, leb, length, get_or, ℤ, pos, negsuc, Ok, Err, Some, None}
use Rattle.maths.specs.Repeat.{repeat}
use Rattle.rules.specs.declared.form.Fault.{Fault}
use Rattle.rules.specs.declared.form.Code.{Code}
use Rattle.rules.specs.declared.operator.Operator.{Operator}
use Rattle.rules.specs.Refusals.{bytes_end, wrong_form, bytes_left}
use Rattle.rules.specs.Operators.{Faces}

-- a fault's number, and its place: the length of the bytes, the first byte of the faulty field, the first byte left over
abbrev pub fault_number : Fault → ℕ
fault_number (Fault.Ends at) = bytes_end
fault_number (Fault.Wrong at) = wrong_form
fault_number (Fault.Left at) = bytes_left

abbrev pub fault_place : Fault → ℕ
fault_place (Fault.Ends at) = at
fault_place (Fault.Wrong at) = at
fault_place (Fault.Left at) = at

-- whether r is the number of a fault
abbrev pub is_fault : ℕ → Bool
is_fault r = eqb r bytes_end || eqb r wrong_form || eqb r bytes_left

-- what reading a field finds: its value, or the fault; an entry of a rising list: the least number that may follow, and the place after it; an operator, and
-- the place after it
abbrev pub Field : Type 0
Field = Result ℕ Fault

abbrev pub EntryForm : Type 0
EntryForm = Result (ℕ × ℕ) Fault

abbrev pub OperatorForm : Type 0
OperatorForm = Result (Operator × ℕ) Fault

-- x is from low to high
abbrev pub within : ℕ → ℕ → ℕ → Bool
within low high x = leb low x && leb x high

-- a field that is there, with the value x, to be from low to high
abbrev pub judged : ℕ → ℕ → ℕ → ℕ → Field
judged at low high x = cond (within low high x) (Ok x) (Err (Fault.Wrong at))

-- the field of one byte at `at`. "A field is judged when all its bytes are there."
unfoldable pub byte_at : List ℕ → ℕ → ℕ → ℕ → Field
byte_at s at low high = cond (ltb at (length s)) (judged at low high (get_or s at 0)) (Err (Fault.Ends (length s)))

-- the field of two bytes, low first
unfoldable pub word_at : List ℕ → ℕ → ℕ → Field
word_at s at high = cond (ltb (at + 1) (length s)) (judged at 0 high (get_or s at 0 + 256 * get_or s (at + 1) 0)) (Err (Fault.Ends (length s)))

-- what follows a field: `bad` of its fault, or `go` of its value; the same for an entry and an operator
abbrev pub after : {A : Type 0} → Field → (Fault → A) → (ℕ → A) → A
after (Ok x) bad go = go x
after (Err f) bad go = bad f

abbrev pub after_entry : {A : Type 0} → EntryForm → (Fault → A) → (ℕ → ℕ → A) → A
after_entry (Ok x) bad go = go x.0 x.1
after_entry (Err f) bad go = bad f

abbrev pub after_operator : {A : Type 0} → OperatorForm → (Fault → A) → (Operator → ℕ → A) → A
after_operator (Ok x) bad go = go x.0 x.1
after_operator (Err f) bad go = bad f

-- "hex 10 to 13 make, 20 to 23 kill, 31 to 33 split, 40 to 42 merge at, 51 to 53 flip; the low digit is the dimension"
unfoldable pub code_of : ℕ → Option Code
code_of b =
    cond (within 0x10 0x13 b) (Some (Code.Make (b - 0x10)))
    (cond (within 0x20 0x23 b) (Some (Code.Kill (b - 0x20)))
    (cond (within 0x31 0x33 b) (Some (Code.Split (b - 0x30)))
    (cond (within 0x40 0x42 b) (Some (Code.Merge (b - 0x40)))
    (cond (within 0x51 0x53 b) (Some (Code.Flip (b - 0x50))) None))))

-- an entry of a list: a number that is at least `low`, and in a list with signs a sign, "1 for plus and 2 for minus"
unfoldable pub entry_at : Bool → List ℕ → ℕ → ℕ → EntryForm
entry_at signed s at low =
    after (byte_at s at low 255) Err λ x.
    cond signed
    (after (byte_at s (at + 1) 1 2) Err λ sign. Ok (x + 1, at + 2))
    (Ok (x + 1, at + 1))

-- n entries from `at`, "numbers strictly rising": the place after them
unfoldable pub entries_at : Bool → List ℕ → ℕ → ℕ → Field
entries_at signed s n at =
    repeat {S = ℕ × ℕ}
    (λ x go. after_entry (entry_at signed s x.0 x.1) Err λ low next. go (next, low))
    (λ x. Ok x.0)
    n (at, 0)

-- "a face count and that many pairs", or that many numbers: the place after them
unfoldable pub list_at : Bool → List ℕ → ℕ → Field
list_at signed s at = after (byte_at s at 0 96) Err λ n. entries_at signed s n (at + 1)

-- what an operator has after its code, from `at`. "Make 0 has nothing more; make 1 has tail and head; make 2 and 3 have a face count and pairs."
unfoldable pub make_at : List ℕ → ℕ → ℕ → OperatorForm
make_at s k at =
    cond (eqb k 0) (Ok (Operator.Make k at, at))
    (cond (eqb k 1)
    (after (byte_at s at 0 255) Err λ tail.
    after (byte_at s (at + 1) 0 255) Err λ head.
    Ok (Operator.Make k at, at + 2))
    (after (list_at true s at) Err λ next. Ok (Operator.Make k at, next)))

-- "Split has a number and, for 32 and 33, a face count and that many numbers, strictly rising."
unfoldable pub split_at : List ℕ → ℕ → ℕ → OperatorForm
split_at s k at =
    after (byte_at s at 0 255) Err λ c.
    cond (eqb k 1) (Ok (Operator.Split k c (at + 1), at + 1))
    (after (list_at false s (at + 1)) Err λ next. Ok (Operator.Split k c (at + 1), next))

-- "Kill, merge and flip have a number."
unfoldable pub cell_at : List ℕ → (ℕ → Operator) → ℕ → OperatorForm
cell_at s o at = after (byte_at s at 0 255) Err λ c. Ok (o c, at + 1)

abbrev pub operands_at : List ℕ → ℕ → Option Code → OperatorForm
operands_at s at (Some (Code.Make k)) = make_at s k (at + 1)
operands_at s at (Some (Code.Kill k)) = cell_at s (Operator.Kill k) (at + 1)
operands_at s at (Some (Code.Split k)) = split_at s k (at + 1)
operands_at s at (Some (Code.Merge k)) = cell_at s (Operator.Merge k) (at + 1)
operands_at s at (Some (Code.Flip k)) = cell_at s (Operator.Flip k) (at + 1)
operands_at s at None = Err (Fault.Wrong at)

-- the operator at `at`, and the place after it
unfoldable pub operator_at : List ℕ → ℕ → OperatorForm
operator_at s at = after (byte_at s at 0 255) Err λ b. operands_at s at (code_of b)

-- the bytes of one operator, and none after them
unfoldable pub lone_operator : List ℕ → OperatorForm
lone_operator s =
    after_operator (operator_at s 0) Err λ o next.
    cond (ltb next (length s)) (Err (Fault.Left next)) (Ok (o, next))

-- the faces that a list in form has: a seam's tail and head, a panel's or block's pairs, a split's numbers
abbrev pub sign_of : ℕ → ℤ
sign_of b = cond (eqb b 1) (pos 1) (negsuc 0)

abbrev pub none : Faces
none = record { n = 0; number = λ l. 0; sign = λ l. pos 0 }

unfoldable pub made_of : List ℕ → ℕ → ℕ → Faces
made_of s zero at = none
made_of s (suc zero) at = record { n = 2; number = λ l. get_or s (at + l) 0; sign = λ l. cond (eqb l 0) (negsuc 0) (pos 1) }
made_of s (suc (suc k)) at = record { n = get_or s at 0; number = λ l. get_or s (at + 1 + 2 * l) 0; sign = λ l. sign_of (get_or s (at + 2 + 2 * l) 0) }

unfoldable pub chosen_of : List ℕ → ℕ → ℕ → Faces
chosen_of s zero at = none
chosen_of s (suc zero) at = none
chosen_of s (suc (suc k)) at = record { n = get_or s at 0; number = λ l. get_or s (at + 1 + l) 0; sign = λ l. pos 1 }

abbrev pub faces_of : List ℕ → Operator → Faces
faces_of s (Operator.Make k list) = made_of s k list
faces_of s (Operator.Kill k c) = none
faces_of s (Operator.Split k c list) = chosen_of s k list
faces_of s (Operator.Merge k t) = none
faces_of s (Operator.Flip k c) = none

-- n base counts from `at`: the place after them
unfoldable pub counts_at : List ℕ → ℕ → ℕ → Field
counts_at s n at = repeat (λ p go. after (byte_at s p 0 96) Err λ c. go (p + 1)) Ok n at

-- n operators from `at`, and no byte after them: `count`
unfoldable pub operators_at : List ℕ → ℕ → ℕ → ℕ → Field
operators_at s count n at =
    repeat
    (λ p go. after_operator (operator_at s p) Err λ o next. go next)
    (λ p. cond (ltb p (length s)) (Err (Fault.Left p)) (Ok count))
    n at

-- "Script: base count, always 4, then n0 to n3 as the writer knew them; operator count in two bytes, low first, 0 to 1,024; the operators." How many.
unfoldable pub script_form : List ℕ → Field
script_form s =
    after (byte_at s 0 4 4) Err λ base.
    after (counts_at s 4 1) Err λ at.
    after (word_at s 5 1024) Err λ count.
    operators_at s count count 7
