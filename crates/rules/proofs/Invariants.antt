-- What every step keeps holds where steps end that keep the rules: each of them goes, and one result is held after the last. An allowed plan is at most
-- `most_steps` of them.
use Prim.Native.Nat.{ℕ, suc, ◌+◌, ◌*◌, ◌≤◌}
use mathlib.Core.Path.{◌≡◌, refl}
use mathlib.Core.Bool.{Bool, true, false, ◌&&◌}
use mathlib.Core.List.{List, [], ◌∷◌}
use lib.ListN.{length}
use lib.Dec.{eqb, leb}
use native.Mathlib.Omega.{arith}
use borrow.Author.Tests.{eqb-true, leb-true}
use Rattle.relations.specs.Sets.{all}
use Rattle.relations.proofs.Leads.{both_true, clash}
use Rattle.query.specs.declared.Query.{Query}
use Rattle.query.specs.Choice.{pick}
use Rattle.query.specs.Query.{relations_of}
use Rattle.rules.specs.declared.Held.{Held}
use Rattle.rules.specs.Machine.{Step, Machine, start, Outcome, went, refused, step}
use Rattle.rules.specs.Allowed.{most_steps, steps_of, Verdict, accepted, rejected, after, finish, run, RunAt, checked, AllowedAt}

-- After i steps, where the last one went, I holds.
abbrev pub Holds : (ℕ → Machine → Type 0) → ℕ → Outcome → Type 0
Holds I i (went m) = I i m
Holds I i (refused k) = Unit {0}

-- Every step keeps I.
abbrev pub Invariant : (ℕ → ℕ → ℕ) → Query → (ℕ → Machine → Type 0) → Type 0
Invariant combine q I = (i : ℕ) (x : Step) (m : Machine) → I i m → Holds I (suc i) (step combine q x.kind x.arg m)

-- What at most n steps of figure c end with.
pub record Ends (q : Query) (I : ℕ → Machine → Type 0) (n c : ℕ) : Type 0 where
  pub steps : ℕ
  pub few : steps ≤ n
  pub loaded : ℕ
  pub held : Held
  pub kept : I steps (record { loaded = loaded; stack = held ∷ [] })
  pub whole : held.set ≡ all (relations_of q)
  pub delivered : held.site ≡ q.target
  pub figure : held.figure.0 ≡ c

-- There are no more steps than pairs of bytes.
steps_few : (bytes : List ℕ) → 2 * length (steps_of bytes) ≤ length bytes
steps_few [] = omega arith
steps_few (k ∷ []) = omega arith
steps_few (k ∷ (a ∷ bytes)) = omega (arith, steps_few bytes)

-- An allowed plan is at most `most_steps` steps that keep the other rules.
pub allowed_run : (combine : ℕ → ℕ → ℕ) (q : Query) (plan : List ℕ) (c : ℕ) → AllowedAt combine q plan c →
    (xs : List Step) × ((length xs ≤ most_steps) × RunAt combine q xs c)
unfolding checked
allowed_run combine q [] c h = absurd (clash (cc))
allowed_run combine q (count ∷ bytes) c h = go ((leb 1 count && leb count most_steps) && eqb (length bytes) (2 * count)) refl h
  where
    go : (b : Bool) → ((leb 1 count && leb count most_steps) && eqb (length bytes) (2 * count)) ≡ b →
        pick b (run combine q 0 (steps_of bytes) start) (rejected 7 0) ≡ accepted c → (xs : List Step) × ((length xs ≤ most_steps) × RunAt combine q xs c)
    go true e h =
        let whole = both_true (leb 1 count && leb count most_steps) (eqb (length bytes) (2 * count)) e in
        let count-in = both_true (leb 1 count) (leb count most_steps) whole.0 in
        (steps_of bytes, (omega (arith, leb-true count most_steps count-in.1, eqb-true (length bytes) (2 * count) whole.1, steps_few bytes), h))
    go false e h = absurd (clash (cc))

module _ (combine : ℕ → ℕ → ℕ) (q : Query) (I : ℕ → Machine → Type 0) (keeps : Invariant combine q I) where
  module _ (n : ℕ) where
    abbrev Ended : Verdict → Type 0
    Ended (accepted c) = Ends q I n c
    Ended (rejected k i) = Unit {0}

    finish_ends : (i L : ℕ) (hs : List Held) → i ≤ n → I i (record { loaded = L; stack = hs }) → Ended (finish q i hs)
    unfolding finish
    finish_ends i L [] few s = tt
    finish_ends i L (h ∷ []) few s = go (eqb h.set (all (relations_of q)) && eqb h.site q.target) refl
      where
        go : (b : Bool) → (eqb h.set (all (relations_of q)) && eqb h.site q.target) ≡ b → Ended (pick b (accepted h.figure.0) (rejected 12 i))
        go true e =
            let two = both_true (eqb h.set (all (relations_of q))) (eqb h.site q.target) e in
            record {
              steps = i;
              few = few;
              loaded = L;
              held = h;
              kept = s;
              whole = eqb-true h.set (all (relations_of q)) two.0;
              delivered = eqb-true h.site q.target two.1;
              figure = refl;
            }
        go false e = tt
    finish_ends i L (h ∷ (a ∷ hs)) few s = tt

    run_ends : (i : ℕ) (xs : List Step) (m : Machine) → i + length xs ≤ n → I i m → Ended (run combine q i xs m)
    unfolding run
    run_ends i [] m few s = finish_ends i m.loaded m.stack (omega arith) s
    run_ends i (x ∷ xs) m few s = go (step combine q x.kind x.arg m) (keeps i x m s) (λ n. run_ends (suc i) xs n (omega arith))
      where
        go : (o : Outcome) → Holds I (suc i) o → ((n : Machine) → I (suc i) n → Ended (run combine q (suc i) xs n)) → Ended (after i o (run combine q (suc i) xs))
        go (went n) g later = later n g
        go (refused k) g later = tt

  pub steps_end : (n : ℕ) (xs : List Step) (c : ℕ) → length xs ≤ n → I 0 start → RunAt combine q xs c → Ends q I n c
  steps_end n xs c few begun h = rw h at (run_ends n 0 xs start (omega arith) begun)

  pub allowed_ends : (plan : List ℕ) (c : ℕ) → I 0 start → AllowedAt combine q plan c → Ends q I most_steps c
  allowed_ends plan c begun h = let r = allowed_run combine q plan c h in steps_end most_steps r.0 c r.1.0 begun r.1.1
