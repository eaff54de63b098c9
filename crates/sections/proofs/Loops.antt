-- Items one after another: a loop over them has the definition's answer from where it stands.
use Prim.Native.Nat.{ℕ, suc, ◌+◌, ◌-◌, ◌≤◌, ◌<◌}
use native.Mathlib.Numerals.{add-one}
use native.Mathlib.Omega.{arith}
use mathlib.Core.Path.{◌≡◌, sym, ◌∙◌}
use mathlib.Core.List.{List}
use Rattle.sections.specs.Fields.{Read, refused, value, items, storing}

one_fewer : (n i : ℕ) → i < n → n - i ≡ suc (n - (i + 1))
one_fewer n i h = omega arith

-- The answer as a loop has it: what the items from i on give, read into a from l.
module _ {A : Type 0} (item : ℕ → A → List ℕ → Read A) (answer : Read A) (n i : ℕ) (a : A) (l : List ℕ) (so : answer ≡ items item (n - i) i a l) where
  -- No item is left.
  pub items_done : n ≤ i → value a l ≡ answer
  unfolding items
  items_done h =
      let z : n - i ≡ 0 = omega arith in
      let f : answer ≡ items item 0 i a l = rw z at so in
      sym f

  -- The next item is refused.
  pub items_no : (k : ℕ) → i < n → refused k ≡ item i a l → answer ≡ refused k
  unfolding items
  items_no k h e =
      let f : answer ≡ items item (suc (n - (i + 1))) i a l = rw (one_fewer n i h) at so in
      f ∙ rw (← e)

  -- The next item is read.
  pub items_on : (b : A) (r : List ℕ) → i < n → value b r ≡ item i a l → answer ≡ items item (n - (i + 1)) (i + 1) b r
  unfolding items
  items_on b r h e =
      let f : answer ≡ items item (suc (n - (i + 1))) i a l = rw (one_fewer n i h) at so in
      f ∙ rw (← e, add-one)

-- The same where an item reads one thing and stores it.
module _ {A T : Type 0} (read : List ℕ → Read T) (store : ℕ → A → T → A) (answer : Read A) (n i : ℕ) (a : A) (l : List ℕ)
    (so : answer ≡ items (storing read store) (n - i) i a l) (h : i < n) where
  pub stored_no : (k : ℕ) → refused k ≡ read l → answer ≡ refused k
  unfolding storing
  stored_no k e = items_no (storing read store) answer n i a l so k h (rw (← e))

  pub stored_on : (t : T) (r : List ℕ) → value t r ≡ read l → (b : A) → b ≡ store i a t → answer ≡ items (storing read store) (n - (i + 1)) (i + 1) b r
  unfolding storing
  stored_on t r e b is = items_on (storing read store) answer n i a l so b r h (rw (← e, is))

pub ruleset loops = (items_done, items_no, items_on, stored_no, stored_on)
