-- The lines of a sender, its own place left out.
use Prim.Native.Nat.{ℕ, ◌+◌, ◌-◌, ◌*◌, ◌≤◌, ◌<◌}
use native.Mathlib.Nat.{mul-le-mul_right}
use native.Mathlib.Omega.{arith}
use mathlib.Core.Path.{◌≡◌}
use mathlib.Core.List.{List}
use mir.Syntax.{w64}
use mir.Val.{Fits}
use borrow.Author.Tests.{eq-eqb, ne_eqb}
use Rattle.query.specs.declared.Lines.{Lines}
use Rattle.query.specs.declared.Terms.{Terms}
use Rattle.query.specs.Terms.{with_line}
use Rattle.sections.specs.Fields.{Read, refused, value, items, storing}
use Rattle.sections.specs.Sections.{terms, line}
use Rattle.sections.proofs.Loops.{items_done, items_no, items_on}

module _ (answer : Read Lines) (s a b : ℕ) (ls : Lines) (l : List ℕ) (so : answer ≡ items (line a) (s - b) b ls l) (less : b < s) where
  pub line_own : a ≡ b → answer ≡ items (line a) (s - (b + 1)) (b + 1) ls l
  unfolding line
  line_own own = items_on (line a) answer s b ls l so ls l less (rw (eq-eqb a b own))

  pub line_no : (a ≡ b → ⊥) → (k : ℕ) → refused k ≡ terms l → answer ≡ refused k
  unfolding line storing
  line_no other k e = items_no (line a) answer s b ls l so k less (rw (ne_eqb a b other, ← e))

  pub line_on : (a ≡ b → ⊥) → (t : Terms) (r : List ℕ) → value t r ≡ terms l → (m : Lines) → m ≡ with_line a b ls t → answer ≡ items (line a) (s - (b + 1)) (b + 1) m r
  unfolding line storing
  line_on other t r e m is = items_on (line a) answer s b ls l so m r less (rw (ne_eqb a b other, ← e, is))

-- The count s(s-1) of up to eight sites is small.
pub pairs_fit : (s : ℕ) → s ≤ 8 → Fits w64 (s * (s - 1))
pairs_fit s h =
    let b : s * (s - 1) ≤ 8 * (s - 1) = mul-le-mul_right (s - 1) h in
    record { fits = omega arith }

pub ruleset lines = (line_own, line_no, line_on, items_done)
