-- Readings that are local: one that ends with a value took some bytes, leaves what follows them, and would give the same value whatever followed. A field is
-- so, and so is what is made of such readings.
use Prim.Native.Nat.{ℕ, zero, suc, ◌≤◌}
use native.Mathlib.Omega.{arith}
use mathlib.Core.Path.{◌≡◌, refl, sym, ap, ◌∙◌}
use mathlib.Core.Bool.{true, ◌&&◌}
use mathlib.Core.List.{List, [], ◌++◌, append_assoc}
use lib.ListN.{length, take, drop, length-append, take-append-drop}
use lib.Seq.{length-take-le, take_at, drop_at}
use lib.Dec.{ltb, leb}
use borrow.Author.Tests.{ltb-false, le-ltb}
use Rattle.relations.proofs.Leads.{clash}
use Rattle.query.proofs.Choice.{pick_all}
use Rattle.sections.specs.Fields.{Read, refused, value, and_then, number, field, count_field, items, storing, section}
use Rattle.sections.proofs.Parts.{number_taken}

pub record Splits {A : Type 0} (read : List ℕ → Read A) (l : List ℕ) (a : A) (r : List ℕ) : Type 0 where
  pub used : List ℕ
  pub is : l ≡ used ++ r
  pub again : (x : List ℕ) → read (used ++ x) ≡ value a x

abbrev pub Local : {A : Type 0} → (List ℕ → Read A) → Type 0
Local {A} read = (l : List ℕ) (a : A) (r : List ℕ) → read l ≡ value a r → Splits read l a r

-- Where a reading after another ends with a value, the first had one.
pub came :
    {A B C : Type 0} (x : Read A) (next : A → List ℕ → Read B) (b : B) (r : List ℕ) → and_then x next ≡ value b r →
    ((a : A) (m : List ℕ) → x ≡ value a m → next a m ≡ value b r → C) → C
came (refused k) next b r e so = absurd (clash (cc))
came (value a m) next b r e so = so a m refl e

-- The number in the first bytes does not see what follows them.
number_again : (w : ℕ) (l x : List ℕ) → w ≤ length l → number w (take w l ++ x) ≡ number w l
number_again w l x h =
    let size : length (take w l) ≡ w = length-take-le w l h in
    sym (number_taken w (take w l ++ x) (omega (arith, length-append (take w l) x))) ∙ ap (number w) (take_at (take w l) x w size) ∙ number_taken w l h

pub field_local : (w fault low high : ℕ) → Local (field w fault low high)
unfolding field
field_local w fault low high l a r =
    pick_all Goes (ltb (length l) w) _ _ (λ cut e. absurd (clash (cc)))
    (λ whole. pick_all Goes (leb low (number w l) && leb (number w l) high) _ _ (λ in-range. go (ltb-false (length l) w whole) in-range) (λ out e. absurd (clash (cc))))
  where
    Goes : Read ℕ → Type 0
    Goes y = y ≡ value a r → Splits (field w fault low high) l a r

    go : w ≤ length l → (leb low (number w l) && leb (number w l) high) ≡ true → Goes (value (number w l) (drop w l))
    go long in-range e = record {
      used = take w l;
      is = let rest : drop w l ≡ r = cc in rw (← rest) (sym (take-append-drop w l));
      again = λ x.
          let size : length (take w l) ≡ w = length-take-le w l long in
          let more : w ≤ length (take w l ++ x) = omega (arith, length-append (take w l) x) in
          let v : number w l ≡ a = cc in
          rw (le-ltb _ _ more, number_again w l x long, in-range, drop_at (take w l) x w size, v);
    }

pub value_local : {A : Type 0} (b : A) → Local (λ l. value b l)
value_local b l a r e = record { used = []; is = cc; again = λ x. cc }

pub then_local :
    {A B : Type 0} (read : List ℕ → Read A) (next : A → List ℕ → Read B) → Local read → ((a : A) → Local (next a)) → Local (λ l. and_then (read l) next)
then_local read next first second l b r e =
    came (read l) next b r e λ a m here there.
    let s = first l a m here in
    let t = second a m b r there in
    record {
      used = s.used ++ t.used;
      is = s.is ∙ ap (λ (m : List ℕ). s.used ++ m) t.is ∙ sym (append_assoc s.used t.used r);
      again = λ x. rw (append_assoc, s.again (t.used ++ x)) (t.again x);
    }

pub items_local : {A : Type 0} (item : ℕ → A → List ℕ → Read A) → ((i : ℕ) (a : A) → Local (item i a)) → (k i : ℕ) (a : A) → Local (items item k i a)
unfolding items
items_local item each zero i a = value_local a
items_local item each (suc k) i a = then_local (item i a) _ (each i a) (λ b. items_local item each k (suc i) b)

pub storing_local : {A T : Type 0} (read : List ℕ → Read T) (store : ℕ → A → T → A) → Local read → (i : ℕ) (a : A) → Local (storing read store i a)
unfolding storing
storing_local read store local i a = then_local read _ local (λ t. value_local (store i a t))

pub section_local :
    {A T : Type 0} (low high : ℕ) (start : ℕ → A) (read : List ℕ → Read T) (store : ℕ → A → T → A) → Local read → Local (section low high start (storing read store))
unfolding section
section_local low high start read store local =
    then_local (count_field low high) _ (field_local 1 2 low high) (λ n. items_local (storing read store) (storing_local read store local) n 0 (start n))
