-- Entries that are checked one after another.
use Rattle.std.proofs.Common.{◌≡◌, ℕ, ◌+◌, ◌<◌, List, ◌∷◌, length, map, drop, get_or, Result, Ok, Err, IsErrAnd, sym, ap, ◌∙◌, subst}
use Rattle.std.proofs.lemmas.List.{drop_more, drop-map}
use Rattle.p3l_ast.specs.declared.refusal.SourceRefusal.{SourceRefusal}
use Rattle.p3l_ast.specs.declared.refusal.SourceRefusal.TheVariants.{At, NoMemory}
use Rattle.p3l_ast.specs.declared.program.Entry.{Entry}
use Rattle.p3l_ast.specs.Tree.{entry_tree}
use Rattle.p3l_types.specs.Verdict.{Gives, given}
use Rattle.p3l_check.specs.Places.{defines, defined_from, ArePlaces}
use Rattle.p3l_check.specs.declared.progress.Progress.{Progress}
use Rattle.p3l_check.specs.Entry.{Checked, checked_result, checked_entry, checked_entries}

module _ (checked : Checked) (entries : List Entry) (places : List (List ℕ × ℕ)) (are : ArePlaces (map entry_tree entries) places) (k : ℕ) where
  -- the names defined ahead are those of the table
  ahead : defined_from places k ≡ defines (map entry_tree (drop k entries))
  ahead = λ j name. (are k name ∙ ap (λ es. defines es name) (drop-map entry_tree k entries)) j

  entries-step : (e : Entry) → k < length entries → e ≡ get_or entries k e → checked_entries checked (map entry_tree (drop k entries))
      ≡ given (checked_entry checked (defined_from places k) (entry_tree e)) (λ next. checked_entries next (map entry_tree (drop (k + 1) entries)))
  entries-step e inside is =
      let cons : drop k entries ≡ e ∷ drop (k + 1) entries = drop_more entries k e inside ∙ ap (λ d. d ∷ drop (k + 1) entries) (sym is) in
      ap (λ es. checked_entries checked (map entry_tree es)) cons
      ∙ ap (λ is_ahead. given (checked_entry checked is_ahead (entry_tree e)) (λ next. checked_entries next (map entry_tree (drop (k + 1) entries))))
      (ap (λ es. defines (map entry_tree es)) (sym cons) ∙ sym ahead)

  pub entries-kept : (e : Entry) (next : Checked) → k < length entries → e ≡ get_or entries k e → checked_entry checked (defined_from places k) (entry_tree e) ≡ Ok next →
      checked_entries checked (map entry_tree (drop k entries)) ≡ checked_entries next (map entry_tree (drop (k + 1) entries))
  entries-kept e next inside is kept =
      entries-step e inside is ∙ ap (λ r. given r (λ next. checked_entries next (map entry_tree (drop (k + 1) entries)))) kept

  pub entries-refused : (e : Entry) (refusal : SourceRefusal) → k < length entries → e ≡ get_or entries k e →
      checked_entry checked (defined_from places k) (entry_tree e) ≡ Err refusal → checked_entries checked (map entry_tree (drop k entries)) ≡ Err refusal
  entries-refused e refusal inside is refused =
      entries-step e inside is ∙ ap (λ r. given r (λ next. checked_entries next (map entry_tree (drop (k + 1) entries)))) refused

  -- a refusal of an entry, also because it is out of memory, is the refusal of the entries from it on
  pub refused-left : (e : Entry) (refusal : SourceRefusal) → k < length entries → e ≡ get_or entries k e →
      Gives {A = Checked} (Err refusal) (checked_entry checked (defined_from places k) (entry_tree e)) → Gives {A = Checked} (Err refusal) (checked_entries checked (map entry_tree (drop k entries)))
  refused-left e NoMemory inside is g = g
  refused-left e (At fault pos) inside is g = entries-refused e (At fault pos) inside is g

pub handed-result : (r : Result Progress SourceRefusal) (refusal : SourceRefusal) (meant : Result Checked SourceRefusal) → IsErrAnd r (λ d. d ≡ refusal) → Gives {A = Checked} (Err refusal) meant →
    Gives (checked_result r) meant
handed-result (Ok progress) refusal meant is g = absurd is
handed-result (Err d) refusal meant is g = subst (λ (q : SourceRefusal). Gives {A = Checked} (Err q) meant) (sym is) g
