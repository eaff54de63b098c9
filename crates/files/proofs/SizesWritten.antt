-- The section Sizes, read from the bytes of a query's sizes, gives them again: the reading fills a list of zeros from the first set on, and where a set is
-- no subquery its size is 0.
use Prim.Native.Nat.{ℕ, zero, suc, ◌+◌, ◌^◌, ◌≤◌, ◌<◌}
use native.Mathlib.Nat.{eq-or-lt_of_le, le_of_suc-le-suc}
use native.Mathlib.Decide.{dec_lt}
use native.Mathlib.Omega.{arith}
use mathlib.Core.Path.{◌≡◌, refl, sym, ap, ◌∙◌}
use mathlib.Core.Bool.{Bool, true, false}
use mathlib.Core.List.{List, ◌++◌, append_assoc}
use mathlib.Core.Logic.{◌⊎◌, inl, inr}
use lib.ListN.{length, get_or, set, replicate, length-set, length-replicate}
use lib.Seq.{get_or-set_same, get_or-set_other, ext_get_or}
use Rattle.relations.specs.Code.{most_sets}
use Rattle.relations.specs.Trees.{is_subquery, subqueries}
use Rattle.relations.proofs.Connected.{subquery_range}
use Rattle.query.specs.declared.Query.{Query}
use Rattle.query.specs.Query.{relations_of, size, UpTo}
use Rattle.query.proofs.Limits.{zeros_up_to}
use Rattle.sizing.proofs.Most.{SizesIn}
use Rattle.sections.specs.Fields.{value, items, storing}
use Rattle.decoder.specs.Sizes.{sized, sizes_section}
use Rattle.files.specs.Ordinary.{amounts, sizes_bytes}
use Rattle.files.proofs.Bytes.{field_bytes}

-- The numbers of l before place S, and zeros from there on.
record Filled (l a : List ℕ) (S : ℕ) : Type 0 where
  pub long : length a ≡ length l
  pub done : (i : ℕ) → i < S → get_or a i 0 ≡ get_or l i 0
  pub left : (i : ℕ) → S ≤ i → get_or a i 0 ≡ 0

filled_start : (l : List ℕ) → length l ≡ most_sets → Filled l (replicate most_sets 0) 0
filled_start l e = record {
  long = length-replicate {A = ℕ} most_sets 0 ∙ sym e;
  done = λ i h. absurd (omega arith);
  left = λ i h. omega (arith, zeros_up_to 0 most_sets i);
}

module _ (l a : List ℕ) (S : ℕ) (f : Filled l a S) where
  filled_next : (b : List ℕ) → length b ≡ length a → ((i : ℕ) → (i ≡ S → ⊥) → get_or b i 0 ≡ get_or a i 0) → get_or b S 0 ≡ get_or l S 0 → Filled l b (suc S)
  filled_next b long other here = record {
    long = long ∙ f.long;
    done = λ i h. go i (eq-or-lt_of_le (le_of_suc-le-suc h));
    left = λ i h. other i (λ e. omega arith) ∙ f.left i (omega arith);
  }
    where
      go : (i : ℕ) → (i ≡ S) ⊎ (i < S) → get_or b i 0 ≡ get_or l i 0
      go i (inl e) = ap (λ (j : ℕ). get_or b j 0) e ∙ here ∙ ap (λ (j : ℕ). get_or l j 0) (sym e)
      go i (inr h) = other i (λ e. omega arith) ∙ f.done i h

  filled_set : S < length l → Filled l (set a S (get_or l S 0)) (suc S)
  filled_set h =
      filled_next (set a S (get_or l S 0)) (length-set a S (get_or l S 0)) (λ i ne. get_or-set_other a S i (get_or l S 0) 0 ne)
      (get_or-set_same a S (get_or l S 0) 0 (omega (arith, f.long)))

  filled_past : get_or l S 0 ≡ 0 → Filled l a (suc S)
  filled_past z = filled_next a refl (λ i ne. refl) (f.left S (omega arith) ∙ sym z)

  filled_all : ((i : ℕ) → S ≤ i → get_or l i 0 ≡ 0) → a ≡ l
  filled_all none = ext_get_or 0 a l f.long (λ i h. elim (dec_lt i S) [ yes b ↦ f.done i b | no b ↦ f.left i (omega arith) ∙ sym (none i (omega arith)) ])

module _ (q : Query) (are : SizesIn q.joins (relations_of q) q.sizes) (most : UpTo 1_000_000_000 q.sizes) (few : 2 ^ relations_of q ≤ most_sets) (x : List ℕ) where
  -- Past the last set there is no subquery.
  none : (S : ℕ) → 2 ^ relations_of q ≤ S → get_or q.sizes S 0 ≡ 0
  none S h = go (is_subquery q.joins (relations_of q) S) refl
    where
      go : (d : Bool) → is_subquery q.joins (relations_of q) S ≡ d → get_or q.sizes S 0 ≡ 0
      go true e = absurd (omega (arith, subquery_range q.joins (relations_of q) S e))
      go false e = are.others S e

  sizes_from :
      (k S : ℕ) (a : List ℕ) → S + k ≡ 2 ^ relations_of q → Filled q.sizes a S →
      items (sized q.joins (relations_of q)) k S a (amounts q k S ++ x) ≡ value q.sizes x
  unfolding items amounts sized storing size
  sizes_from zero S a e f = ap (λ (b : List ℕ). value b x) (filled_all q.sizes a S f (λ i h. none i (omega arith)))
  sizes_from (suc k) S a e f = go (is_subquery q.joins (relations_of q) S) refl (λ b g. sizes_from k (suc S) b (omega arith) g)
    where
      go : (d : Bool) → is_subquery q.joins (relations_of q) S ≡ d →
          ((b : List ℕ) → Filled q.sizes b (suc S) → items (sized q.joins (relations_of q)) k (suc S) b (amounts q k (suc S) ++ x) ≡ value q.sizes x) →
          items (sized q.joins (relations_of q)) (suc k) S a (amounts q (suc k) S ++ x) ≡ value q.sizes x
      go true h next =
          rw (h, append_assoc, field_bytes 4 3 0 1_000_000_000 (get_or q.sizes S 0) (amounts q k (suc S) ++ x) (omega (arith, most S)) (omega arith) (most S))
          (next _ (filled_set q.sizes a S f (omega (arith, are.long))))
      go false h next = rw h (next a (filled_past q.sizes a S f (are.others S h)))

  pub sizes_again : subqueries q.joins (relations_of q) < 256 ^ 2 → sizes_section q.joins (relations_of q) (sizes_bytes q ++ x) ≡ value q.sizes x
  unfolding sizes_section sizes_bytes
  sizes_again small =
      let due = subqueries q.joins (relations_of q) in
      rw (append_assoc, field_bytes 2 2 due due due (amounts q (2 ^ relations_of q) 0 ++ x) small (omega arith) (omega arith))
      (sizes_from (2 ^ relations_of q) 0 (replicate most_sets 0) (omega arith) (filled_start q.sizes are.long))
