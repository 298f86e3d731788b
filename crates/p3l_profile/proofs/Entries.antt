-- The entries of a table, one at a time.
use Rattle.std.proofs.Common.{◌≡◌, ℕ, ◌+◌, ◌<◌, ◌≤◌, List, [], ◌∷◌, ◌++◌, length, drop, get_or, refl, sym, ap, ◌∙◌, arith, suc, drop-cons, append_assoc, append-nil}
use Rattle.std.proofs.lemmas.List.{drop_all}
use Rattle.p3l_skel.specs.declared.tree.ModuleInfo.{ModuleInfo}
use Rattle.p3l_skel.specs.declared.tree.Node.{Node}
use Rattle.p3l_profile.specs.declared.text.CostTable.{CostTable}
use Rattle.p3l_profile.specs.Text.{entries, entry_of}

module _ (table : CostTable) (number : ℕ → ℕ) (nodes : List Node) (modules : List ModuleInfo) (k : ℕ) (before whole : List ℕ) (so_far : before ++ entries table number nodes k (drop k modules) ≡ whole) where
  pub entry_more : (info : ModuleInfo) (now : List ℕ) → k < length modules → info ≡ get_or modules k info → now ≡ before ++ entry_of table number nodes k info →
      now ++ entries table number nodes (k + 1) (drop (k + 1) modules) ≡ whole
  entry_more info now inside is added =
      let here = entry_of table number nodes k info in
      let rest = entries table number nodes (k + 1) (drop (k + 1) modules) in
      ap (λ x. x ++ rest) added
      ∙ (append_assoc before here rest
      ∙ (ap (λ (m : ModuleInfo). before ++ (entry_of table number nodes k m ++ rest)) is
      ∙ (ap (λ n. before ++ (entry_of table number nodes k (get_or modules k info) ++ entries table number nodes (k + 1) (drop n modules))) (let e : k + 1 ≡ suc k = omega arith in e)
      ∙ rw (drop-cons modules k info inside) at so_far)))

  pub entry_last : length modules ≤ k → before ≡ whole
  entry_last past =
      sym (append-nil before) ∙ (sym (ap (λ ms. before ++ entries table number nodes k ms) (drop_all k modules past)) ∙ so_far)
