-- The prices' limits and laws. Each price is one fixed amount and one rate times a count of parcels or bytes, and a valid query limits both.
use Prim.Native.Nat.{ℕ, ◌+◌, ◌-◌, ◌*◌, ◌≤◌, zero-le}
use native.Mathlib.Nat.{mul-le-mul, mul-le-mul_left, add_comm, le_refl, le_trans, le_antisymm}
use native.Mathlib.Omega.{arith}
use mathlib.Core.Path.{◌≡◌, refl}
use mathlib.Core.Bool.{Bool, true, false}
use lib.Dec.{eqb, leb}
use borrow.Author.Tests.{ne_eqb, eqb-false, leb-true, leb-false}
use Rattle.query.specs.declared.Query.{Query}
use Rattle.query.specs.Choice.{pick}
use Rattle.query.specs.Cost.{none, some}
use Rattle.query.specs.Query.{Valid, join_fixed, join_rate, is_open, line_fixed, line_rate, size}
use Rattle.query.specs.Prices.{parcels, line_price, sending, reads, join_price, most_parcels, dearest_line}
use Rattle.query.specs.Spared.{spareable, spared}
use Rattle.query.specs.Theorems.{ParcelsLaw, LineMost, JoinMost, ReadsSpared, ReadsEither}
use Rattle.query.proofs.Choice.{pick_all}

-- A fixed amount and a rate times a count, each up to its limit.
pub priced_most : (f r x F R X : ℕ) → f ≤ F → r ≤ R → x ≤ X → f + r * x ≤ F + R * X
priced_most f r x F R X a b c = omega (arith, mul-le-mul b c)

pub parcels_law : ParcelsLaw
unfolding parcels
parcels_law size = record { enough = omega arith; least = λ p h. omega arith }

pub line_most : LineMost
unfolding line_price line_fixed line_rate size
line_most q v P a b =
    priced_most _ _ _ 1_000_000 1_000 most_parcels (v.line_fixed_most _) (v.line_rate_most _)
    ((parcels_law _).least most_parcels (omega (arith, v.sizes_most P)))

-- No more than the read can be spared.
pub spareable_most : (qualifies : Bool) (x : ℕ) → spareable qualifies x ≤ x
spareable_most true x = le_refl x
spareable_most false x = zero-le

-- What is spared is the larger of what can be: at least each, and one of them.
spared_least : (v w : ℕ) → (v ≤ spared v w) × (w ≤ spared v w)
spared_least v w = go (leb v w) refl
  where
    go : (t : Bool) → leb v w ≡ t → (v ≤ pick t w v) × (w ≤ pick t w v)
    go true e = (leb-true v w e, le_refl w)
    go false e = (le_refl v, omega (arith, leb-false v w e))

pub spared_most : (v w m : ℕ) → v ≤ m → w ≤ m → spared v w ≤ m
spared_most v w m h g = pick_all (λ (x : ℕ). x ≤ m) (leb v w) w v (λ _. g) (λ _. h)

-- Beside nothing all that can be spared is.
pub spared_alone : (v : ℕ) → (spared v 0 ≡ v) × (spared 0 v ≡ v)
spared_alone v =
    (le_antisymm (spared_most v 0 v (le_refl v) zero-le) (spared_least v 0).0, le_antisymm (spared_most 0 v v zero-le (le_refl v)) (spared_least 0 v).1)

pub reads_spared : ReadsSpared
unfolding reads
reads_spared true x true y = go (leb x y) refl
  where
    go : (t : Bool) → leb x y ≡ t → pick t x y ≡ x + y - pick t y x
    go true e = omega arith
    go false e = omega arith
reads_spared true x false y = omega (arith, (spared_alone x).0)
reads_spared false x true y = omega (arith, (spared_alone y).1)
reads_spared false x false y = omega arith

reads_most : (a : Bool) (x : ℕ) (b : Bool) (y : ℕ) → reads a x b y ≤ x + y
reads_most a x b y = rw (reads_spared a x b y) (omega arith)

pub join_most : JoinMost
unfolding join_price join_fixed join_rate size
join_most q v k a P b R =
    priced_most _ _ _ 1_000_000 1_000 3_000_000_000 (v.join_fixed_most k) (v.join_rate_most k)
    (omega (arith, reads_most a (size q P) b (size q R), v.sizes_most P, v.sizes_most R, v.sizes_most (P + R)))

-- What is spared is the same for the operands in either order.
spared_either : (v w : ℕ) → spared v w ≡ spared w v
spared_either v w = le_antisymm (spared_most v w _ (spared_least w v).1 (spared_least w v).0) (spared_most w v _ (spared_least v w).1 (spared_least v w).0)

pub reads_either : ReadsEither
reads_either a x b y =
    rw (reads_spared a x b y, reads_spared b y a x, spared_either (spareable a x) (spareable b y)) (omega arith)

-- The order of the operands does not matter to a join's price.
pub join_either : (q : Query) (k : ℕ) (a : Bool) (P : ℕ) (b : Bool) (R : ℕ) → join_price q k a P b R ≡ join_price q k b R a P
unfolding join_price
join_either q k a P b R = rw (reads_either a (size q P) b (size q R), add_comm P R)

-- More is never spared of an operand that does not qualify than of one that does.
qualified_more : (a a' : Bool) (x : ℕ) → (a ≡ true → a' ≡ true) → spareable a x ≤ spareable a' x
qualified_more true a' x h = rw (h refl) (le_refl x)
qualified_more false a' x h = zero-le

-- A join whose operands qualify, too, where those of another do is never dearer.
pub qualified_cheaper : (q : Query) (k : ℕ) (a a' : Bool) (P : ℕ) (b b' : Bool) (R : ℕ) → (a ≡ true → a' ≡ true) → (b ≡ true → b' ≡ true) →
    join_price q k a' P b' R ≤ join_price q k a P b R
unfolding join_price
qualified_cheaper q k a a' P b b' R h g =
    let x : ℕ = size q P in
    let y : ℕ = size q R in
    let v : spareable a x ≤ spared (spareable a' x) (spareable b' y) = le_trans (qualified_more a a' x h) (spared_least (spareable a' x) (spareable b' y)).0 in
    let w : spareable b y ≤ spared (spareable a' x) (spareable b' y) = le_trans (qualified_more b b' y g) (spared_least (spareable a' x) (spareable b' y)).1 in
    let less : reads a' x b' y + size q (P + R) ≤ reads a x b y + size q (P + R) =
    rw (reads_spared a' x b' y, reads_spared a x b y) (omega (arith, spared_most (spareable a x) (spareable b y) _ v w)) in
    omega (arith, mul-le-mul_left (join_rate q k) less)

-- A send over an open line to another site has the line's price.
pub sending_open : (q : Query) (P a b : ℕ) → (a ≡ b → ⊥) → is_open q a b ≡ true → sending q P a b ≡ some (line_price q P a b)
unfolding sending
sending_open q P a b h o = rw (ne_eqb a b h, o)

-- A send whose price is a number goes over an open line to another site, for the line's price.
pub record Sending (q : Query) (P a b c : ℕ) : Type 0 where
  pub away : a ≡ b → ⊥
  pub opened : is_open q a b ≡ true
  pub price : c ≡ line_price q P a b

pub sending_is : (q : Query) (P a b c : ℕ) → sending q P a b ≡ some c → Sending q P a b c
unfolding sending
sending_is q P a b c e = go (eqb a b) (is_open q a b) refl refl e
  where
    go : (s o : Bool) → eqb a b ≡ s → is_open q a b ≡ o → pick s none (pick o (some (line_price q P a b)) none) ≡ some c → Sending q P a b c
    go true o h g e = absurd (cc)
    go false true h g e = record { away = eqb-false a b h; opened = g; price = cc }
    go false false h g e = absurd (cc)

-- No send that is a number is above the dearest line.
pub sending_most : (q : Query) → Valid q → (P a b c : ℕ) → sending q P a b ≡ some c → c ≤ dearest_line
sending_most q v P a b c e = let s = sending_is q P a b c e in omega (arith, s.price, line_most q v P a b)
