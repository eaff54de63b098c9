-- How many bytes a reading takes: what is left is so much shorter. A field takes its width, an item its fields' widths, items what they take one after
-- another, a section its count's byte and its items.
use Prim.Native.Nat.{ℕ, zero, suc, ◌+◌, ◌*◌, ◌≤◌, ◌<◌}
use native.Mathlib.Nat.{mul-suc, add-zero, zero-add}
use native.Mathlib.Omega.{arith}
use mathlib.Core.Path.{◌≡◌, sym, ap, ◌∙◌}
use mathlib.Core.Bool.{◌&&◌}
use mathlib.Core.List.{List}
use lib.ListN.{length, length-drop}
use lib.Dec.{ltb, leb}
use borrow.Author.Tests.{ltb-false}
use Rattle.query.proofs.Choice.{pick_all}
use Rattle.sections.specs.Fields.{Read, refused, value, and_then, number, field, count_field, items, storing, section}
use Rattle.sections.proofs.Gives.{Gives, gives_then, gives_so, gives_items, Held, field_held}
use Rattle.files.specs.Length.{section_length}

-- Every reading by it takes as many bytes as its value says: a number for each value.
abbrev pub Takes : {T : Type 0} → (T → ℕ) → (List ℕ → Read T) → Type 0
Takes size read = (l : List ℕ) → Gives (λ t r. length l ≡ size t + length r) (read l)

pub field_takes : (w fault low high : ℕ) → (1 ≤ fault) × (fault ≤ 5) → Takes (λ v. w) (field w fault low high)
unfolding field
field_takes w fault low high h l =
    pick_all (Gives (λ v r. length l ≡ w + length r)) (ltb (length l) w) _ _ (λ cut. omega arith)
    (λ whole.
    pick_all (Gives (λ v r. length l ≡ w + length r)) (leb low (number w l) && leb (number w l) high) _ _
    (λ in-range. omega (arith, length-drop w l, ltb-false (length l) w whole)) (λ out. h))

-- A reading after another, and after a field.
pub takes_then :
    {A B : Type 0} (Q : B → List ℕ → Type 0) (size : A → ℕ) (read : List ℕ → Read A) (l : List ℕ) (next : A → List ℕ → Read B) → Takes size read →
    ((a : A) (r : List ℕ) → length l ≡ size a + length r → Gives Q (next a r)) → Gives Q (and_then (read l) next)
takes_then Q size read l next t f = gives_then _ Q (read l) next (t l) f

pub field_next :
    {B : Type 0} (Q : B → List ℕ → Type 0) (w fault low high : ℕ) (l : List ℕ) (next : ℕ → List ℕ → Read B) → (1 ≤ fault) × (fault ≤ 5) →
    ((v : ℕ) (r : List ℕ) → length l ≡ w + length r → Gives Q (next v r)) → Gives Q (and_then (field w fault low high l) next)
field_next Q w fault low high l next h = takes_then Q (λ v. w) (field w fault low high) l next (field_takes w fault low high h)

-- Items one after another, where those before i take total i bytes.
pub items_take :
    {A : Type 0} (total : ℕ → ℕ) (item : ℕ → A → List ℕ → Read A) (n : ℕ) →
    ((i : ℕ) → i < n → (a : A) (l : List ℕ) → Gives (λ b r. length l + total i ≡ total (suc i) + length r) (item i a l)) →
    (k i : ℕ) (a : A) (l : List ℕ) → i + k ≡ n → Gives (λ b r. length l + total i ≡ total n + length r) (items item k i a l)
unfolding items
items_take total item n each zero i a l e = omega (arith, ap total (sym (add-zero i) ∙ e))
items_take total item n each (suc k) i a l e =
    gives_then _ _ (item i a l) _ (each i (omega arith) a l) λ b m g.
    gives_so _ _ (items item k (suc i) b m) (items_take total item n each k (suc i) b m (omega arith)) λ c r f. omega arith

-- A thing of w bytes that is read and stored.
pub storing_takes :
    {A T : Type 0} (w : ℕ) (read : List ℕ → Read T) (store : ℕ → A → T → A) → Takes (λ t. w) read → (i : ℕ) (a : A) → Takes (λ b. w) (storing read store i a)
unfolding storing
storing_takes w read store takes i a l = takes_then _ (λ t. w) read l _ takes λ t r e. e

-- What follows from two properties of a reading.
gives_both :
    {A : Type 0} (P Q R : A → List ℕ → Type 0) (x : Read A) → Gives P x → Gives Q x → ((a : A) (r : List ℕ) → P a r → Q a r → R a r) → Gives R x
gives_both P Q R (refused k) p q f = p
gives_both P Q R (value a r) p q f = f a r p q

-- A section of such things. Its count, which is from low to high, stays as it starts.
pub section_takes :
    {A T : Type 0} (count : A → ℕ) (w low high : ℕ) (start : ℕ → A) (read : List ℕ → Read T) (store : ℕ → A → T → A) → Takes (λ t. w) read →
    ((n : ℕ) → (low ≤ n) × (n ≤ high) → count (start n) ≡ n) → ((i : ℕ) (a : A) (t : T) → count (store i a t) ≡ count a) →
    Takes (λ a. section_length w (count a)) (section low high start (storing read store))
unfolding section storing
section_takes count w low high start read store takes first keep l =
    gives_then (λ n m. Held 1 low high l n m × (length l ≡ 1 + length m)) _ (count_field low high l) _
    (gives_both _ _ _ (count_field low high l) (field_held 1 2 low high l (omega arith)) (field_takes 1 2 low high (omega arith) l) λ n m c e. (c, e)) λ n m e.
    gives_both (λ a r. count a ≡ n) _ _ (items (storing read store) n 0 (start n) m)
    (gives_items (λ a. count a ≡ n) (storing read store) (λ i a o h. takes_then _ (λ t. w) read o _ takes λ t r g. keep i a t ∙ h) n 0 (start n) m (first n (e.0.low_most, e.0.high_most)))
    (items_take (λ i. w * i) (storing read store) n
    (λ i below a o. gives_so _ _ (storing read store i a o) (storing_takes w read store takes i a o) λ b r g. omega (arith, mul-suc w i))
    n 0 (start n) m (zero-add n)) λ a r c g. omega (arith, ap (λ (x : ℕ). w * x) c)
