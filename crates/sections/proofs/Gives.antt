-- What a reading gives: each value that is read has a property P, with what is left behind it, and each refusal is one of 1 to 5. A chain of readings
-- has this by its parts.
use Prim.Native.Nat.{ℕ, zero, suc, ◌≤◌}
use native.Mathlib.Omega.{arith}
use mathlib.Core.Path.{◌≡◌, refl}
use mathlib.Core.Bool.{◌&&◌, and-eq-true_iff}
use mathlib.Core.List.{List}
use lib.ListN.{length, drop}
use lib.Dec.{ltb, leb}
use borrow.Author.Tests.{leb-true}
use Rattle.query.proofs.Choice.{pick_all}
use Rattle.sections.specs.Fields.{Read, refused, value, and_then, number, field, items, storing, section}

abbrev pub Gives : {A : Type 0} → (A → List ℕ → Type 0) → Read A → Type 0
Gives P (refused k) = (1 ≤ k) × (k ≤ 5)
Gives P (value a r) = P a r

-- The same where P does not speak of what is left.
abbrev pub Has : {A : Type 0} → (A → Type 0) → Read A → Type 0
Has P x = Gives (λ a r. P a) x

-- A reading after another.
pub gives_then :
    {A B : Type 0} (P : A → List ℕ → Type 0) (Q : B → List ℕ → Type 0) (x : Read A) (next : A → List ℕ → Read B) → Gives P x →
    ((a : A) (r : List ℕ) → P a r → Gives Q (next a r)) → Gives Q (and_then x next)
gives_then P Q (refused k) next h f = h
gives_then P Q (value a r) next h f = f a r h

-- A property that follows.
pub gives_so : {A : Type 0} (P Q : A → List ℕ → Type 0) (x : Read A) → Gives P x → ((a : A) (r : List ℕ) → P a r → Q a r) → Gives Q x
gives_so P Q (refused k) h f = h
gives_so P Q (value a r) h f = f a r h

-- Items that each keep P.
pub gives_items :
    {A : Type 0} (P : A → Type 0) (item : ℕ → A → List ℕ → Read A) → ((i : ℕ) (a : A) (l : List ℕ) → P a → Has P (item i a l)) → (k i : ℕ) (a : A) (l : List ℕ) →
    P a → Has P (items item k i a l)
unfolding items
gives_items P item keep zero i a l h = h
gives_items P item keep (suc k) i a l h = gives_then _ _ (item i a l) _ (keep i a l h) (λ b r g. gives_items P item keep k (suc i) b r g)

-- A field is cut, at fault, or whole: its number is from low to high, and the rest starts behind its bytes.
pub field_cases :
    (R : Read ℕ → Type 0) (w fault low high : ℕ) (l : List ℕ) → R (refused 1) → R (refused fault) →
    (low ≤ number w l → number w l ≤ high → R (value (number w l) (drop w l))) → R (field w fault low high l)
unfolding field
field_cases R w fault low high l cut out whole =
    pick_all R (ltb (length l) w) _ _ (λ e. cut)
    (λ e.
    pick_all R (leb low (number w l) && leb (number w l) high) _ _
    (λ t. let both = (and-eq-true_iff _ _).0 t in whole (leb-true _ _ both.0) (leb-true _ _ both.1)) (λ t. out))

pub record Held (w low high : ℕ) (l : List ℕ) (v : ℕ) (r : List ℕ) : Type 0 where
  pub rest : r ≡ drop w l
  pub low_most : low ≤ v
  pub high_most : v ≤ high

pub field_held : (w fault low high : ℕ) (l : List ℕ) → (1 ≤ fault) × (fault ≤ 5) → Gives (Held w low high l) (field w fault low high l)
field_held w fault low high l h =
    field_cases (Gives (Held w low high l)) w fault low high l (omega arith) h (λ a b. record { rest = refl; low_most = a; high_most = b })

-- A reading after a field.
pub field_then :
    {B : Type 0} (Q : B → List ℕ → Type 0) (w fault low high : ℕ) (l : List ℕ) (next : ℕ → List ℕ → Read B) → (1 ≤ fault) × (fault ≤ 5) →
    ((v : ℕ) (r : List ℕ) → Held w low high l v r → Gives Q (next v r)) → Gives Q (and_then (field w fault low high l) next)
field_then Q w fault low high l next h = gives_then _ Q (field w fault low high l) next (field_held w fault low high l h)

-- Every reading by it gives Q, in w bytes.
abbrev pub Holds : {T : Type 0} → (T → Type 0) → ℕ → (List ℕ → Read T) → Type 0
Holds Q w read = (l : List ℕ) → Gives (λ t r. Q t × (r ≡ drop w l)) (read l)

-- A thing that has Q, stored so that P stays.
pub gives_storing :
    {A T : Type 0} (Q : T → Type 0) (P : A → Type 0) (w : ℕ) (read : List ℕ → Read T) (store : ℕ → A → T → A) → Holds Q w read →
    ((i : ℕ) (a : A) (t : T) → Q t → P a → P (store i a t)) → (i : ℕ) (a : A) (l : List ℕ) → P a → Has P (storing read store i a l)
unfolding storing
gives_storing Q P w read store holds keep i a l h = gives_then _ _ (read l) _ (holds l) λ t r q. keep i a t q.0 h

-- A section of such items: P holds from its count on.
pub gives_section :
    {A T : Type 0} (Q : T → Type 0) (P : A → Type 0) (w low high : ℕ) (start : ℕ → A) (read : List ℕ → Read T) (store : ℕ → A → T → A) → Holds Q w read →
    ((n : ℕ) → (low ≤ n) × (n ≤ high) → P (start n)) → ((i : ℕ) (a : A) (t : T) → Q t → P a → P (store i a t)) → (l : List ℕ) →
    Has P (section low high start (storing read store) l)
unfolding section
gives_section Q P w low high start read store holds first keep l =
    field_then _ 1 2 low high l _ (omega arith) λ n m c.
    gives_items P (storing read store) (gives_storing Q P w read store holds keep) n 0 (start n) m (first n (c.low_most, c.high_most))
