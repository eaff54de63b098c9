-- The pairs of a decoded file, read behind their count alone, are its joins again: they stand behind the count in the bytes that the joins used, and these give
-- the joins whatever follows.
use Prim.Native.Nat.{ℕ, ◌+◌, ◌-◌, ◌*◌}
use native.Mathlib.Omega.{arith}
use mathlib.Core.Path.{◌≡◌}
use mathlib.Core.List.{List, [], ◌∷◌, ◌++◌, append_assoc, append-nil}
use lib.ListN.{length, take, drop, length-append}
use lib.Seq.{take_at, drop_at}
use Rattle.relations.specs.declared.Joins.{Joins}
use Rattle.relations.proofs.Leads.{clash}
use Rattle.query.specs.declared.Query.{Query}
use Rattle.query.specs.Query.{relations_of, sites_of}
use Rattle.sections.specs.Fields.{Read, value, number, count_field, section}
use Rattle.sections.specs.Sections.{joins_section}
use Rattle.sections.proofs.Gives.{field_cases}
use Rattle.decoder.specs.declared.Form.{Form}
use Rattle.files.specs.Length.{section_length}
use Rattle.files.proofs.Local.{came}
use Rattle.files.proofs.InOrder.{Sections}
use Rattle.files.proofs.Used.{sites, relations, joins, sites_length, relations_length, joins_length, before_sizes_lem}
use Rattle.claim.specs.Foretold.{pairs_in}

-- The first byte of the joins is their count.
count_first : (n c : ℕ) (l : List ℕ) (J : Joins) (r : List ℕ) → joins_section n (c ∷ l) ≡ value J r → c ≡ n - 1
unfolding joins_section section number
count_first n c l J r e =
    came (count_field (n - 1) (n - 1) (c ∷ l)) _ J r e λ v m first rest.
    field_cases (λ (y : Read ℕ). y ≡ value v m → c ≡ n - 1) 1 2 (n - 1) (n - 1) (c ∷ l) (λ e. absurd (clash (cc))) (λ e. absurd (clash (cc)))
    (λ low high e. omega arith) first

-- As many pairs as are due, which are read as J.
pub record Paired (n : ℕ) (J : Joins) (pairs : List ℕ) : Type 0 where
  pub bytes : length pairs ≡ 2 * J.count
  pub again : joins_section n ((n - 1) ∷ pairs) ≡ value J []

-- Of a list with the joins' bytes u in it, what stands behind their count.
paired :
    (n : ℕ) (J : Joins) (a b u r : List ℕ) (k : ℕ) → length a + length b + 1 ≡ k → length u ≡ section_length 2 J.count →
    ((x : List ℕ) → joins_section n (u ++ x) ≡ value J x) → Paired n J (take (2 * J.count) (drop k (a ++ (b ++ (u ++ r)))))
paired n J a b [] r k start long reads = absurd (omega arith)
paired n J a b (c ∷ l) r k start long reads =
    let split : a ++ (b ++ (c ∷ (l ++ r))) ≡ (a ++ (b ++ (c ∷ []))) ++ (l ++ r) = simp append_assoc in
    let front : length (a ++ (b ++ (c ∷ []))) ≡ k = simp length-append (omega arith) in
    let pairs : take (2 * J.count) (drop k (a ++ (b ++ (c ∷ (l ++ r))))) ≡ l =
    rw (split, drop_at (a ++ (b ++ (c ∷ []))) (l ++ r) k front) (take_at l r (2 * J.count) (omega arith)) in
    let alone : joins_section n (c ∷ l) ≡ value J [] = rw append-nil at (reads []) in
    rw pairs (record { bytes = omega arith; again = rw (count_first n c l J [] alone) at alone })

pub pairs_again : (f : Form) (file : List ℕ) (q : Query) (l : List ℕ) → Sections f file q l → Paired (relations_of q) q.joins (pairs_in q file)
pairs_again f file q l p =
    let start : length (sites p).used + length (relations p).used + 1 ≡ section_length 9 (sites_of q) + section_length 2 (relations_of q) + 1 =
    omega (arith, sites_length p, relations_length p) in
    rw (before_sizes_lem p)
    (paired (relations_of q) q.joins (sites p).used (relations p).used (joins p).used p.joins_left _ start (joins_length p) (joins p).again)
