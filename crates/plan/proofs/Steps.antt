-- The text of a plan's steps: what is written so far, and what the steps that are left make.
use Rattle.std.proofs.Common.{◌≡◌, ℕ, zero, suc, ◌+◌, ◌<◌, List, [], ◌∷◌, ◌++◌, length, get_or, codes, refl, sym, ap, ◌∙◌, arith, append_assoc, append-nil}
use Rattle.plan.specs.Text.{step_text, steps_text}

-- A step's line.
abbrev pub line : List ℕ → List ℕ
line step = step_text (get_or step 0 0) (get_or step 1 0) ++ codes "\n"

first_line : (n m : ℕ) (step rest all : List ℕ) → n + 1 ≡ m → all ≡ step ++ rest → length step ≡ 2 → line step ++ steps_text n rest ≡ steps_text m all
unfolding steps_text
first_line n zero step rest all fewer parts two = absurd (omega (arith, fewer))
first_line n (suc m) [] rest all fewer parts two = absurd (omega (arith, two))
first_line n (suc m) (a ∷ []) rest all fewer parts two = absurd (omega (arith, two))
first_line n (suc m) (a ∷ b ∷ []) rest all fewer parts two = let less : n ≡ m = omega (arith, fewer) in rw (parts, less) refl
first_line n (suc m) (a ∷ b ∷ c ∷ step) rest all fewer parts two = absurd (omega (arith, two))

no_line : (n : ℕ) (rest : List ℕ) → (0 < n → length rest < 2) → steps_text n rest ≡ []
unfolding steps_text
no_line zero rest short = refl
no_line (suc n) [] short = refl
no_line (suc n) (a ∷ []) short = refl
no_line (suc n) (a ∷ b ∷ rest) short = absurd (let h = short (omega arith) in omega (arith, h))

-- The next step's line is written; and no step is left.
module _ (n : ℕ) (done rest whole : List ℕ) where
  pub step_more :
      (m : ℕ) (step all : List ℕ)
      → n + 1 ≡ m
      → all ≡ step ++ rest
      → length step ≡ 2
      → done ++ steps_text m all ≡ whole
      → (done ++ line step) ++ steps_text n rest ≡ whole
  step_more m step all fewer parts two e = append_assoc done (line step) (steps_text n rest) ∙ ap (λ l. done ++ l) (first_line n m step rest all fewer parts two) ∙ e

  pub step_none : (0 < n → length rest < 2) → done ++ steps_text n rest ≡ whole → done ≡ whole
  step_none short e = sym (append-nil done) ∙ ap (λ l. done ++ l) (sym (no_line n rest short)) ∙ e
