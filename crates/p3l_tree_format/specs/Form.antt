-- The format of the forms of nodes, each under the kind of its module.
use Rattle.std.specs.Prelude.{ℕ, zero, suc, Bool, true, false, [], Option, Some, None, ◌==◌, if◌then◌else◌}
use Rattle.p3l_base.specs.Limits.{most_tokens, most_turns, most_words, most_workers}
use Rattle.p3l_base.specs.declared.cut.Cut.{Cut}
use Rattle.p3l_skel.specs.declared.tree.Form.{Form}
use Rattle.p3l_skel.specs.declared.tree.Form.TheVariants as form
use Rattle.p3l_skel.specs.declared.tree.ModuleKind.{ModuleKind}
use Rattle.p3l_skel.specs.declared.tree.ModuleKind.TheVariants as kind
use Rattle.p3l_format.specs.Format.{Format, both, as_form, nothing}
use Rattle.p3l_format.specs.Numbers.{u32_in}
use Rattle.p3l_tree_format.specs.Slice.{cut_format}

abbrev pub is_form : ModuleKind → Form → Bool
is_form kind.Seq form.Seq = true
is_form kind.Comp form.Comp = true
is_form kind.Pipe form.Pipe = true
is_form kind.Farm (form.Farm w) = true
is_form kind.Map (form.Map w cut) = true
is_form kind.Reduce (form.Reduce w len elem) = true
is_form kind.Loop (form.Loop turns tokens) = true
is_form _ _ = false

-- the number of a clause, which is 0 where it isn't given
abbrev pub clause_of : ℕ → Option ℕ
clause_of n = if n == 0 then None else Some n

abbrev pub clause_number : Option ℕ → ℕ
clause_number None = 0
clause_number (Some n) = n

abbrev pub is_clause : Option ℕ → Bool
is_clause None = true
is_clause (Some zero) = false
is_clause (Some (suc n)) = true

unfoldable pub clause_format : Format ℕ (Option ℕ)
clause_format = as_form is_clause clause_of clause_number (u32_in 0 most_workers)

-- the numbers of a form, each with something where it has none
abbrev pub workers_of : Form → Option ℕ
workers_of (form.Farm w) = w
workers_of (form.Map w cut) = w
workers_of (form.Reduce w len elem) = w
workers_of _ = None

abbrev pub cut_of : Form → Cut
cut_of (form.Map w cut) = cut
cut_of _ = record { first = 0; second = 0; ins = []; outs = [] }

abbrev pub fold_of : Form → ℕ × ℕ
fold_of (form.Reduce w len elem) = (len, elem)
fold_of _ = (0, 0)

abbrev pub loop_of : Form → ℕ × ℕ
loop_of (form.Loop turns tokens) = (turns, tokens)
loop_of _ = (0, 0)

unfoldable pub form_format : ModuleKind → Format ℕ Form
form_format kind.Seq = nothing (is_form kind.Seq) form.Seq
form_format kind.Comp = nothing (is_form kind.Comp) form.Comp
form_format kind.Pipe = nothing (is_form kind.Pipe) form.Pipe
form_format kind.Farm = as_form (is_form kind.Farm) (λ w. form.Farm w) workers_of clause_format
form_format kind.Map = as_form (is_form kind.Map) (λ p. form.Map p.0 p.1) (λ f. (workers_of f, cut_of f)) (both clause_format cut_format)
form_format kind.Reduce = as_form (is_form kind.Reduce) (λ p. form.Reduce p.0 p.1.0 p.1.1) (λ f. (workers_of f, fold_of f)) (both clause_format (both (u32_in 1 most_words) (u32_in 1 most_words)))
form_format kind.Loop = as_form (is_form kind.Loop) (λ p. form.Loop p.0 p.1) loop_of (both (u32_in 1 most_turns) (u32_in 1 most_tokens))
