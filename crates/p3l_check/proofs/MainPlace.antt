-- The position of `main` among the entries that are left.
use Rattle.std.proofs.Common.{◌≡◌, ℕ, ◌+◌, ◌<◌, ◌≤◌, true, false, List, length, map, drop, get_or, sym, ap, ◌∙◌}
use Rattle.std.specs.Prelude.{bytes_eq, if◌then◌else◌}
use Rattle.std.proofs.lemmas.List.{drop_more, drop_all}
use Rattle.p3l_ast.specs.declared.position.Pos.{Pos}
use Rattle.p3l_ast.specs.declared.program.Entry.{Entry}
use Rattle.p3l_ast.specs.Tree.{entry_tree}
use Rattle.p3l_check.specs.Places.{entry_spot}
use Rattle.p3l_check.specs.Resolving.{main_name, main_place}

module _ (end : Pos) (entries : List Entry) (k : ℕ) where
  place-step : (e : Entry) → k < length entries → e ≡ get_or entries k e → main_place end (map entry_tree (drop k entries))
      ≡ (if bytes_eq (entry_spot (entry_tree e)).name main_name then (entry_spot (entry_tree e)).pos else main_place end (map entry_tree (drop (k + 1) entries)))
  place-step e inside is =
      ap (λ es. main_place end (map entry_tree es)) (drop_more entries k e inside)
      ∙ ap (λ d. if bytes_eq (entry_spot (entry_tree d)).name main_name then (entry_spot (entry_tree d)).pos else main_place end (map entry_tree (drop (k + 1) entries))) (sym is)

  pub place-found : (e : Entry) → k < length entries → e ≡ get_or entries k e → bytes_eq (entry_spot (entry_tree e)).name main_name ≡ true →
      main_place end (map entry_tree (drop k entries)) ≡ (entry_spot (entry_tree e)).pos
  place-found e inside is found =
      place-step e inside is ∙ ap (λ b. if b then (entry_spot (entry_tree e)).pos else main_place end (map entry_tree (drop (k + 1) entries))) found

  pub place-other : (e : Entry) → k < length entries → e ≡ get_or entries k e → bytes_eq (entry_spot (entry_tree e)).name main_name ≡ false →
      main_place end (map entry_tree (drop k entries)) ≡ main_place end (map entry_tree (drop (k + 1) entries))
  place-other e inside is other =
      place-step e inside is ∙ ap (λ b. if b then (entry_spot (entry_tree e)).pos else main_place end (map entry_tree (drop (k + 1) entries))) other

  pub place-end : length entries ≤ k → main_place end (map entry_tree (drop k entries)) ≡ end
  place-end past = ap (λ es. main_place end (map entry_tree es)) (drop_all k entries past)

pub ruleset places = (place-found, place-other, place-end)
