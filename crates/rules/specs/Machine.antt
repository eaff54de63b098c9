-- One step of a plan on the stack of held results: rules 4.2 and 4.3, refusals 8 to 11.
-- The combination of two operands' figures is a parameter: for costs it is the sum.
use Rattle.std.specs.Prelude.{ℕ, ◌+◌, ◌-◌, ◌^◌, Bool, true, false, not, ◌&&◌, ◌||◌, List, [], ◌∷◌, eqb, ltb}
use Rattle.relations.specs.declared.Joins.{Joins}
use Rattle.relations.specs.Sets.{bit}
use Rattle.relations.specs.Growth.{first, second}
use Rattle.query.specs.declared.Query.{Query}
use Rattle.query.specs.declared.Charge.{Charge}
use Rattle.query.specs.Choice.{pick}
use Rattle.query.specs.Query.{relations_of, sites_of, home, may_join, is_open}
use Rattle.query.specs.Prices.{line_price, join_price, indexed}
use Rattle.rules.specs.declared.Origin.{Origin}
use Rattle.rules.specs.declared.Origin.TheVariants.{Bare, Sent, Joined}
use Rattle.rules.specs.declared.Held.{Held}

-- A step of a plan: its kind and its argument.
pub record Step : Type 0 where
  pub kind : ℕ
  pub arg : ℕ

-- The relations loaded so far, as a set, and the held results, the top first.
pub record Machine : Type 0 where
  pub loaded : ℕ
  pub stack : List Held

abbrev pub start : Machine
start = record { loaded = 0; stack = [] }

-- A step goes, or is refused with its number.
pub data Outcome : Type 0 where
  went : Machine → Outcome
  refused : ℕ → Outcome

-- A rule that is kept, or else its refusal.
abbrev pub guard : Bool → ℕ → Outcome → Outcome
guard true k o = o
guard false k o = refused k

abbrev pub charge : ℕ → Charge
charge c = record { 0 = c }

abbrev pub is_bare : Origin → Bool
is_bare Bare = true
is_bare Sent = false
is_bare Joined = false

-- Relation r at its home, as a load puts it on top.
abbrev pub bare_of : Query → ℕ → Held
bare_of q r = record { set = 2 ^ r; site = home q r; origin = Bare; figure = charge 0 }

-- 1, load r: puts r, at its home, on top. Each relation at most once.
unfoldable pub load : Query → ℕ → Machine → Outcome
load q r m =
    guard (ltb r (relations_of q)) 8
    (guard (eqb (bit m.loaded r) 0) 9 (went (record { loaded = m.loaded + 2 ^ r; stack = bare_of q r ∷ m.stack })))

-- The top as it arrives at t.
abbrev pub sent_to : Query → ℕ → Held → Held
sent_to q t h = record { set = h.set; site = t; origin = Sent; figure = charge (h.figure.0 + line_price q h.set h.site t) }

-- 2, send to t: moves the top to t. The line must be open, and t another site. A send may follow a send.
unfoldable pub send_top : Query → ℕ → ℕ → List Held → Outcome
send_top q t loaded [] = refused 10
send_top q t loaded (h ∷ hs) =
    guard (not (eqb h.site t) && is_open q h.site t) 10 (went (record { loaded = loaded; stack = sent_to q t h ∷ hs }))

unfoldable pub send : Query → ℕ → Machine → Outcome
send q t m = guard (ltb t (sites_of q)) 8 (send_top q t m.loaded m.stack)

-- One end of join e in each of P and R.
unfoldable pub links : Joins → ℕ → ℕ → ℕ → Bool
links J e P R = eqb (bit P (first J e) + bit R (second J e)) 2 || eqb (bit P (second J e) + bit R (first J e)) 2

-- Whether a held result qualifies, so that its index can be followed: a bare relation, never sent, that has its index flag set and stands at its home. One
-- that was sent has lost its index even when it is home again.
unfoldable pub qualifies : Query → Held → Bool
qualifies q h = is_bare h.origin && indexed q h.set h.site

-- What joining a and b, at the site of both, makes.
abbrev pub join_of : (ℕ → ℕ → ℕ) → Query → Held → Held → Held
join_of combine q a b =
    record {
      set = a.set + b.set;
      site = b.site;
      origin = Joined;
      figure = charge (combine a.figure.0 b.figure.0 + join_price q b.site (qualifies q a) a.set (qualifies q b) b.set);
    }

-- 3, join e: the top two, at one site that may join, one end of e in each, become one there.
unfoldable pub join_top : (ℕ → ℕ → ℕ) → Query → ℕ → ℕ → List Held → Outcome
join_top combine q e loaded [] = refused 11
join_top combine q e loaded (b ∷ []) = refused 11
join_top combine q e loaded (b ∷ (a ∷ hs)) =
    guard ((eqb a.site b.site && may_join q b.site) && links q.joins e a.set b.set) 11
    (went (record { loaded = loaded; stack = join_of combine q a b ∷ hs }))

unfoldable pub join : (ℕ → ℕ → ℕ) → Query → ℕ → Machine → Outcome
join combine q e m = guard (ltb e (relations_of q - 1)) 8 (join_top combine q e m.loaded m.stack)

-- A step of a plan by its kind and argument. Refusal 8: unknown kind, or argument not in the query.
unfoldable pub step : (ℕ → ℕ → ℕ) → Query → ℕ → ℕ → Machine → Outcome
step combine q kind arg m =
    pick (eqb kind 1) (load q arg m) (pick (eqb kind 2) (send q arg m) (pick (eqb kind 3) (join combine q arg m) (refused 8)))
