-- Running steps that keep the rules: each kind of step goes where its conditions hold, and lists of steps run one after the other.
use Prim.Native.Nat.{ℕ, suc, ◌+◌, ◌-◌, ◌^◌}
use mathlib.Core.Path.{◌≡◌, refl, ap, ◌∙◌}
use mathlib.Core.List.{List, [], ◌∷◌, ◌++◌}
use lib.ListN.{length}
use native.Mathlib.Omega.{arith}
use borrow.Author.Tests.{lt-ltb, eq-eqb, ne_eqb}
use Rattle.relations.specs.Sets.{bit}
use Rattle.relations.proofs.Leads.{clash}
use Rattle.query.specs.declared.Query.{Query}
use Rattle.query.specs.Query.{relations_of, sites_of}
use Rattle.rules.specs.declared.Held.{Held}
use Rattle.rules.specs.Machine.{Step, bare_of, Machine, Outcome, went, refused, load, sent_to, send_top, send, join_of, join_top, join, step}
use Rattle.rules.specs.Allowed.{after, finish, run}
use Rattle.rules.proofs.Steps.{MayLoad, MaySend, MayJoin}

-- Steps one after another, with no end condition.
abbrev pub onward : Outcome → (Machine → Outcome) → Outcome
onward (went m) rest = rest m
onward (refused k) rest = refused k

unfoldable pub ran : (ℕ → ℕ → ℕ) → Query → List Step → Machine → Outcome
ran combine q [] m = went m
ran combine q (x ∷ xs) m = onward (step combine q x.kind x.arg m) (ran combine q xs)

pub load_goes : (combine : ℕ → ℕ → ℕ) (q : Query) (r : ℕ) (m : Machine) → MayLoad q m.loaded r →
    step combine q 1 r m ≡ went (record { loaded = m.loaded + 2 ^ r; stack = bare_of q r ∷ m.stack })
unfolding step load
load_goes combine q r m may = rw (lt-ltb r (relations_of q) may.known, eq-eqb (bit m.loaded r) 0 may.fresh)

pub send_goes : (combine : ℕ → ℕ → ℕ) (q : Query) (t L : ℕ) (h : Held) (hs : List Held) → MaySend q t h →
    step combine q 2 t (record { loaded = L; stack = h ∷ hs }) ≡ went (record { loaded = L; stack = sent_to q t h ∷ hs })
unfolding step send send_top
send_goes combine q t L h hs may = rw (lt-ltb t (sites_of q) may.listed, ne_eqb h.site t may.away, may.opened)

pub join_goes : (combine : ℕ → ℕ → ℕ) (q : Query) (e L : ℕ) (a b : Held) (hs : List Held) → MayJoin q e a b →
    step combine q 3 e (record { loaded = L; stack = b ∷ (a ∷ hs) }) ≡ went (record { loaded = L; stack = join_of combine q a b ∷ hs })
unfolding step join join_top
join_goes combine q e L a b hs may =
    rw (lt-ltb e (relations_of q - 1) may.known, eq-eqb a.site b.site may.there, may.may, may.linked)

pub ran_append : (combine : ℕ → ℕ → ℕ) (q : Query) (xs ys : List Step) (m : Machine) → ran combine q (xs ++ ys) m ≡ onward (ran combine q xs m) (ran combine q ys)
unfolding ran
ran_append combine q [] ys m = refl
ran_append combine q (x ∷ xs) ys m = go (step combine q x.kind x.arg m) (ran_append combine q xs ys)
  where
    go : (o : Outcome) → ((n : Machine) → ran combine q (xs ++ ys) n ≡ onward (ran combine q xs n) (ran combine q ys)) →
        onward o (ran combine q (xs ++ ys)) ≡ onward (onward o (ran combine q xs)) (ran combine q ys)
    go (went n) later = later n
    go (refused k) later = refl

pub ran_then : (combine : ℕ → ℕ → ℕ) (q : Query) (xs ys : List Step) (m n : Machine) → ran combine q xs m ≡ went n → ran combine q (xs ++ ys) m ≡ ran combine q ys n
ran_then combine q xs ys m n e = rw (ran_append combine q xs ys m, e)

pub ran_one : (combine : ℕ → ℕ → ℕ) (q : Query) (x : Step) (m n : Machine) → step combine q x.kind x.arg m ≡ went n → ran combine q (x ∷ []) m ≡ went n
unfolding ran
ran_one combine q x m n e = rw e

-- A plan whose steps run is judged by what it ends with.
pub ran_ends : (combine : ℕ → ℕ → ℕ) (q : Query) (xs : List Step) (i : ℕ) (m n : Machine) → ran combine q xs m ≡ went n →
    run combine q i xs m ≡ finish q (i + length xs) n.stack
unfolding ran run
ran_ends combine q [] i m n e = (let same : i ≡ i + 0 = omega arith in cc)
ran_ends combine q (x ∷ xs) i m n e = go (step combine q x.kind x.arg m) (ran_ends combine q xs (suc i)) e
  where
    go : (o : Outcome) → ((m n : Machine) → ran combine q xs m ≡ went n → run combine q (suc i) xs m ≡ finish q (suc i + length xs) n.stack) →
        onward o (ran combine q xs) ≡ went n → after i o (run combine q (suc i) xs) ≡ finish q (i + suc (length xs)) n.stack
    go (went k) later e =
        let same : suc i + length xs ≡ i + suc (length xs) = omega arith in
        later k n e ∙ ap (λ (j : ℕ). finish q j n.stack) same
    go (refused k) later e = absurd (clash (cc))
