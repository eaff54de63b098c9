-- Over a query's own board, with every smaller subquery's cells filled, the loops' choices are the tables': the best site and the best join.
use Prim.Native.Nat.{ℕ, zero, suc, ◌+◌, ◌^◌, ◌≤◌, ◌<◌}
use native.Mathlib.Nat.{le_refl}
use native.Mathlib.Omega.{arith}
use mathlib.Core.Path.{◌≡◌, refl, sym, ap, ◌∙◌}
use mathlib.Core.Bool.{Bool, true, false}
use lib.Count.{ones}
use borrow.Author.Tests.{ne_eqb}
use Rattle.relations.specs.Growth.{inside}
use Rattle.relations.specs.Trees.{Subquery, join_bits}
use Rattle.relations.specs.Code.{or_none}
use Rattle.relations.proofs.JoinBits.{bits_next}
use Rattle.relations.proofs.Loops.{ends_in}
use Rattle.query.specs.declared.Query.{Query}
use Rattle.query.specs.Choice.{pick}
use Rattle.query.specs.Query.{relations_of, sites_of, may_join}
use Rattle.rules.specs.Combine.{Combines}
use Rattle.routes.specs.Least.{Best}
use Rattle.tables.specs.Written.{best_site, best_join}
use Rattle.board.specs.Board.{joins_at}
use Rattle.filler.specs.Trials.{Lent, joined_in}
use Rattle.filler.specs.Filling.{LaidOut, Filled}
use Rattle.filler.proofs.Started.{start_cost, started_same}
use Rattle.filler.proofs.JoinTrials.{joins_kept, joined_is}
use Rattle.solver.specs.Writing.{joins_within, site_by, join_by}
use Rattle.solver.proofs.Routed.{sites_kept}

module _ (combine : ℕ → ℕ → ℕ) (C : Combines combine) (q : Query) (l : Lent) (laid : LaidOut q l) (S : ℕ) (s : Subquery q.joins (relations_of q) S) where
  within_first : (m : ℕ) → m ≤ q.joins.count → joins_within l.board S m ≡ join_bits q.joins S m
  unfolding joins_within join_bits
  within_first zero h = refl
  within_first (suc m) h =
      rw (within_first m (omega arith), laid.board.ends m h, ends_in q.joins S m) (go (inside q.joins S m) ∙ sym (bits_next q.joins S m))
    where
      go : (d : Bool) → join_bits q.joins S m + pick d (2 ^ m) 0 ≡ join_bits q.joins S m + or_none d (2 ^ m)
      go true = refl
      go false = refl

  -- The joins in S by their ends on the board, and the part that the side of one gives.
  pub within_is : joins_within l.board S (joins_at l.board) ≡ join_bits q.joins S q.joins.count
  within_is = rw laid.board.joins (within_first q.joins.count (le_refl _))

  module _ (filled : Filled combine q l.places l.work S) where
    -- With two relations or more: the best site and the best join are the loops' choices.
    pub site_is : (t : ℕ) → t < 8 → (ones S ≡ 1 → ⊥) → site_by combine l S t ≡ best_site combine q S t
    unfolding best_site start_cost
    site_is t low more =
        rw (within_is, laid.board.sites)
        ((sites_kept combine C q l laid S s (joined_in combine l (join_bits q.joins S q.joins.count) S) (λ k site. rw (ne_eqb (ones S) 1 more) (joined_is combine C q l laid S s filled k site)) t).at_is
        ∙ ap (λ (b : Best). b.at) (started_same combine q S t more))

    pub join_is : (k : ℕ) → k < sites_of q → may_join q k ≡ true → (ones S ≡ 1 → ⊥) → join_by combine l S k ≡ best_join combine q S k
    unfolding best_join
    join_is k low may more = rw within_is (joins_kept combine C q l laid S s filled k low may).at_is
