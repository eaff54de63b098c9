-- What holds of either of two values holds of the one that a test picks.
use mathlib.Core.Path.{◌≡◌, refl}
use mathlib.Core.Bool.{Bool, true, false}
use Rattle.query.specs.Choice.{pick}

pub pick_all : {A : Type 0} (P : A → Type 0) (b : Bool) (x y : A) → (b ≡ true → P x) → (b ≡ false → P y) → P (pick b x y)
pick_all P true x y f g = f refl
pick_all P false x y f g = g refl

-- Of two picks by one test.
pub pick_both : {A B : Type 0} (P : A → B → Type 0) (b : Bool) {x y : A} {u v : B} → P x u → P y v → P (pick b x y) (pick b u v)
pick_both P true h k = h
pick_both P false h k = k
