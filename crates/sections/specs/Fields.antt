-- Reading fields from the front of what is left of a file: a value with the rest, or the number of a refusal.
use Rattle.std.specs.Prelude.{ℕ, zero, suc, ◌+◌, ◌-◌, ◌*◌, ◌&&◌, List, length, get_or, drop, ltb, leb}
use Rattle.query.specs.Choice.{pick}

pub data Read (A : Type 0) : Type 0 where
  refused : ℕ → Read A
  value : A → List ℕ → Read A

-- What is read next, from where the last field or section ended. The first refusal ends the reading.
abbrev pub and_then : {A B : Type 0} → Read A → (A → List ℕ → Read B) → Read B
and_then (refused k) next = refused k
and_then (value a l) next = next a l

-- The number in the first bytes of l, w of them, little-endian.
unfoldable pub number : ℕ → List ℕ → ℕ
number zero l = 0
number (suc w) l = get_or l 0 0 + 256 * number w (drop 1 l)

-- A field of w bytes. It is whole before it is judged: refusal 1 where it is cut, the fault where its number is not from low to high.
unfoldable pub field : (w fault low high : ℕ) → List ℕ → Read ℕ
field w fault low high l =
    pick (ltb (length l) w) (refused 1) (pick (leb low (number w l) && leb (number w l) high) (value (number w l) (drop w l)) (refused fault))

-- A count, from low to high: one byte. Refusal 2 outside its limit.
abbrev pub count_field : (low high : ℕ) → List ℕ → Read ℕ
count_field low high l = field 1 2 low high l

-- A byte below a limit: a flag (below 2), a site, a relation. Refusal 3 out of range.
abbrev pub byte_below : ℕ → List ℕ → Read ℕ
byte_below limit l = field 1 3 0 (limit - 1) l

-- An amount up to a limit: four bytes.
abbrev pub amount_up_to : ℕ → List ℕ → Read ℕ
amount_up_to limit l = field 4 3 0 limit l

-- A number from 1 to a limit: four bytes.
abbrev pub from_one_to : ℕ → List ℕ → Read ℕ
from_one_to limit l = field 4 3 1 limit l

-- Items i, i + 1, .. of a section, k of them, each read from where the last one ended into what the section has so far.
unfoldable pub items : {A : Type 0} → (ℕ → A → List ℕ → Read A) → ℕ → ℕ → A → List ℕ → Read A
items item zero i a l = value a l
items item (suc k) i a l = and_then (item i a l) (λ b r. items item k (suc i) b r)

-- An item that is one thing, read and then stored at its place i in what the section has.
unfoldable pub storing : {A T : Type 0} → (List ℕ → Read T) → (ℕ → A → T → A) → ℕ → A → List ℕ → Read A
storing read store i a l = and_then (read l) (λ t r. value (store i a t) r)

-- A section of as many items as its count says, which is from low to high.
unfoldable pub section : {A : Type 0} → (low high : ℕ) → (ℕ → A) → (ℕ → A → List ℕ → Read A) → List ℕ → Read A
section low high start item l = and_then (count_field low high l) (λ n r. items item n 0 (start n) r)
