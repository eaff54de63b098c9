-- The ways through one step of a plan: what holds of a relation loaded, of the top sent, of the top two joined and of every refusal holds of every
-- step at its price.
use Prim.Native.Nat.{ℕ, ◌+◌, ◌-◌, ◌^◌, ◌<◌}
use mathlib.Core.Path.{◌≡◌, refl}
use mathlib.Core.Bool.{Bool, true, false, not, ◌&&◌}
use mathlib.Core.List.{List, [], ◌∷◌}
use lib.Dec.{eqb, ltb}
use native.Mathlib.Omega.{arith}
use borrow.Author.Tests.{ltb-true, eqb-true, eqb-false, not-true}
use Rattle.relations.specs.Sets.{bit}
use Rattle.relations.proofs.Leads.{both_true}
use Rattle.query.specs.declared.Query.{Query}
use Rattle.query.specs.Choice.{pick}
use Rattle.query.specs.Query.{relations_of, sites_of, may_join, is_open}
use Rattle.query.specs.Prices.{line_price, join_price}
use Rattle.rules.specs.declared.Held.{Held}
use Rattle.rules.specs.Machine.{Step, Machine, Outcome, went, refused, guard, bare_of, load, sent_to, send_top, send, links, qualifies, join_of, join_top, join, step}
use Rattle.rules.specs.Allowed.{send_price, join_step_price, step_price}

-- What a load of r, a send of h to t and a join of a and b by e ask, so that they go.
pub record MayLoad (q : Query) (loaded r : ℕ) : Type 0 where
  pub known : r < relations_of q
  pub fresh : bit loaded r ≡ 0

pub record MaySend (q : Query) (t : ℕ) (h : Held) : Type 0 where
  pub listed : t < sites_of q
  pub away : h.site ≡ t → ⊥
  pub opened : is_open q h.site t ≡ true

pub record MayJoin (q : Query) (e : ℕ) (a b : Held) : Type 0 where
  pub known : e < relations_of q - 1
  pub there : a.site ≡ b.site
  pub may : may_join q b.site ≡ true
  pub linked : links q.joins e a.set b.set ≡ true

-- P holds of the machine before a step, its outcome and its price, whichever way the step goes.
pub record Cases (combine : ℕ → ℕ → ℕ) (q : Query) (P : Machine → Outcome → ℕ → Type 0) : Type 0 where
  pub loads : (m : Machine) (r : ℕ) → MayLoad q m.loaded r → P m (went (record { loaded = m.loaded + 2 ^ r; stack = bare_of q r ∷ m.stack })) 0
  pub sends : (L t : ℕ) (h : Held) (hs : List Held) → MaySend q t h →
      P (record { loaded = L; stack = h ∷ hs }) (went (record { loaded = L; stack = sent_to q t h ∷ hs })) (line_price q h.set h.site t)
  pub joins : (L e : ℕ) (a b : Held) (hs : List Held) → MayJoin q e a b →
      P (record { loaded = L; stack = b ∷ (a ∷ hs) }) (went (record { loaded = L; stack = join_of combine q a b ∷ hs }))
      (join_price q b.site (qualifies q a) a.set (qualifies q b) b.set)
  pub refuses : (m : Machine) (k p : ℕ) → P m (refused k) p

-- What holds of the refusal, and of what follows where the rule is kept.
guarded : (P : Outcome → Type 0) (b : Bool) (k : ℕ) (o : Outcome) → P (refused k) → (b ≡ true → P o) → P (guard b k o)
guarded P true k o not-kept kept = kept refl
guarded P false k o not-kept kept = not-kept

module _ (combine : ℕ → ℕ → ℕ) (q : Query) (P : Machine → Outcome → ℕ → Type 0) (cases : Cases combine q P) where
  load_case : (r : ℕ) (m : Machine) → P m (load q r m) 0
  unfolding load
  load_case r m =
      guarded (λ o. P m o 0) (ltb r (relations_of q)) 8 _ (cases.refuses m 8 0) λ known.
      guarded (λ o. P m o 0) (eqb (bit m.loaded r) 0) 9 _ (cases.refuses m 9 0) λ fresh.
      cases.loads m r (record { known = ltb-true r (relations_of q) known; fresh = eqb-true (bit m.loaded r) 0 fresh })

  send_case : (t L : ℕ) (hs : List Held) → t < sites_of q → P (record { loaded = L; stack = hs }) (send_top q t L hs) (send_price q t hs)
  unfolding send_top
  send_case t L [] listed = cases.refuses _ 10 _
  send_case t L (h ∷ hs) listed =
      guarded (λ o. P (record { loaded = L; stack = h ∷ hs }) o (line_price q h.set h.site t))
      (not (eqb h.site t) && is_open q h.site t) 10 _ (cases.refuses _ 10 _) λ allowed.
      let inner = both_true (not (eqb h.site t)) (is_open q h.site t) allowed in
      cases.sends L t h hs
      (record {
        listed = listed;
        away = eqb-false h.site t (not-true (eqb h.site t) inner.0);
        opened = inner.1;
      })

  join_case : (e L : ℕ) (hs : List Held) → e < relations_of q - 1 → P (record { loaded = L; stack = hs }) (join_top combine q e L hs) (join_step_price q hs)
  unfolding join_top
  join_case e L [] known = cases.refuses _ 11 _
  join_case e L (b ∷ []) known = cases.refuses _ 11 _
  join_case e L (b ∷ (a ∷ hs)) known =
      guarded (λ o. P (record { loaded = L; stack = b ∷ (a ∷ hs) }) o (join_step_price q (b ∷ (a ∷ hs))))
      ((eqb a.site b.site && may_join q b.site) && links q.joins e a.set b.set) 11 _ (cases.refuses _ 11 _) λ allowed.
      let outer = both_true (eqb a.site b.site && may_join q b.site) (links q.joins e a.set b.set) allowed in
      let inner = both_true (eqb a.site b.site) (may_join q b.site) outer.0 in
      cases.joins L e a b hs (record { known = known; there = eqb-true a.site b.site inner.0; may = inner.1; linked = outer.1 })

  pub step_case : (x : Step) (m : Machine) → P m (step combine q x.kind x.arg m) (step_price q x m)
  unfolding step send join
  step_case x m = go (eqb x.kind 1) (eqb x.kind 2) (eqb x.kind 3) refl refl refl
    where
      sends : P m (send q x.arg m) (send_price q x.arg m.stack)
      sends =
          guarded (λ o. P m o (send_price q x.arg m.stack)) (ltb x.arg (sites_of q)) 8 _ (cases.refuses m 8 _) λ listed.
          send_case x.arg m.loaded m.stack (ltb-true x.arg (sites_of q) listed)

      joins : P m (join combine q x.arg m) (join_step_price q m.stack)
      joins =
          guarded (λ o. P m o (join_step_price q m.stack)) (ltb x.arg (relations_of q - 1)) 8 _ (cases.refuses m 8 _) λ known.
          join_case x.arg m.loaded m.stack (ltb-true x.arg (relations_of q - 1) known)

      go : (a b c : Bool) → eqb x.kind 1 ≡ a → eqb x.kind 2 ≡ b → eqb x.kind 3 ≡ c →
          P m (pick a (load q x.arg m) (pick b (send q x.arg m) (pick c (join combine q x.arg m) (refused 8))))
          (pick b (send_price q x.arg m.stack) (pick c (join_step_price q m.stack) 0))
      go true true c one two three = absurd (omega (arith, eqb-true x.kind 1 one, eqb-true x.kind 2 two))
      go true false true one two three = absurd (omega (arith, eqb-true x.kind 1 one, eqb-true x.kind 3 three))
      go true false false one two three = load_case x.arg m
      go false true c one two three = sends
      go false false true one two three = joins
      go false false false one two three = cases.refuses m 8 0
