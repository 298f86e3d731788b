use Rattle.std.proofs.Common.{◌≡◌, ◌+◌, ◌++◌, drop, string_bytes, ap, ◌∙◌}
use Rattle.p3l_types.specs.Shape.{product}
use Rattle.p3l_c.specs.Condition.{take_entries}
use Rattle.p3l_c_print.specs.Name.{name_text}
use Rattle.p3l_c_print.specs.Function.{taken_text, entries_text}
use Rattle.p3l_c_print.proofs.Functions.{one_more, none_more, taken_left, none_taken}
use Rattle.p3l_c_print.proofs.names.Names.put_all_taken.Goals as goal

pub loop-var-preserved : goal.loop-var-preserved
loop-var-preserved c =
    let l = c.loop-var in
    let names = c.args.self.now in
    let vars = c.args.vars.now in
    let var = c.var-item.result in
    let old = string_bytes l.out in
    let new = string_bytes c.put_taken.new.out in
    let name : c.as_str.result.now ≡ name_text names var.name = c.as_str.ensures ∙ c.in_ok-name.ensures in
    let own : c.as_slice-sizes.result.now ≡ var.shape.sizes = c.as_slice-sizes.ensures in
    let after : c.in_ok-from.from ≡ l.from + product var.shape.sizes = c.in_ok-from.ensures ∙ ap (λ sizes. l.from + product sizes) own in
    let put : new ≡ old ++ taken_text (name_text names var.name) var.shape.sizes l.from =
    c.in_ok-put_taken.ensures ∙ ap (λ text. old ++ taken_text text c.as_slice-sizes.result.now l.from) name ∙ ap (λ sizes. old ++ taken_text (name_text names var.name) sizes l.from) own in
    ap (λ from. new ++ entries_text names (take_entries from (drop (l.var-index + 1) vars))) after
    ∙ one_more old new (taken_text (name_text names var.name) var.shape.sizes l.from) (entries_text names (take_entries l.from (drop l.var-index vars))) _ _ put (taken_left names vars l.var-index l.from var c.loop-var-test.true c.var-item.is) l.invariant

pub returns : goal.returns
returns c =
    let l = c.loop-var in
    let names = c.args.self.now in
    let vars = c.args.vars.now in
    none_more (string_bytes l.out) (entries_text names (take_entries l.from (drop l.var-index vars))) _ (none_taken names vars l.var-index l.from c.loop-var-test.false) l.invariant
