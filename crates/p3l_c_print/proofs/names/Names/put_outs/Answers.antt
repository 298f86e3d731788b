use Rattle.std.proofs.Common.{◌≡◌, ◌+◌, ◌++◌, drop, string_bytes, ap, ◌∙◌}
use Rattle.p3l_types.specs.Shape.{product}
use Rattle.p3l_c.specs.Condition.{vars_shapes}
use Rattle.p3l_c_print.specs.Name.{name_text}
use Rattle.p3l_c_print.specs.Function.{out_text, outs_text}
use Rattle.p3l_c_print.proofs.Functions.{one_more, none_more, out_left, no_out_left}
use Rattle.p3l_c_print.proofs.names.Names.put_outs.Goals as goal

pub loop-var-preserved : goal.loop-var-preserved
loop-var-preserved c =
    let l = c.loop-var in
    let names = c.args.self.now in
    let vars = c.args.vars.now in
    let var = c.var-item.result in
    let old = string_bytes l.out in
    let new = string_bytes c.put_out.new.out in
    let name : c.as_str.result.now ≡ name_text names var.name = c.as_str.ensures ∙ c.in_ok-name.ensures in
    let after : c.in_ok-from.from ≡ l.from + product var.shape.sizes = c.in_ok-from.ensures ∙ ap (λ sizes. l.from + product sizes) c.as_slice.ensures in
    let put : new ≡ old ++ out_text (name_text names var.name) l.from = c.in_ok-put_out.ensures ∙ ap (λ text. old ++ out_text text l.from) name in
    ap (λ from. new ++ outs_text names from (vars_shapes (drop (l.var-index + 1) vars))) after
    ∙ one_more old new (out_text (name_text names var.name) l.from) (outs_text names l.from (vars_shapes (drop l.var-index vars))) _ _ put (out_left names vars l.var-index l.from var c.loop-var-test.true c.var-item.is) l.invariant

pub returns : goal.returns
returns c =
    let l = c.loop-var in
    let names = c.args.self.now in
    let vars = c.args.vars.now in
    none_more (string_bytes l.out) (outs_text names l.from (vars_shapes (drop l.var-index vars))) _ (no_out_left names vars l.var-index l.from c.loop-var-test.false) l.invariant
