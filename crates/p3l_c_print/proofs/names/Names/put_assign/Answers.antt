use Rattle.std.proofs.Common.{◌≡◌, ◌++◌, ap, ◌∙◌, string_bytes}
use Rattle.p3l_ast.specs.Tree.{phrase, phrases}
use Rattle.p3l_c.specs.Translate.{next, sizes_at}
use Rattle.p3l_c_print.specs.declared.value.Value.{Value}
use Rattle.p3l_c_print.specs.declared.value.Spots.{Spots}
use Rattle.p3l_c_print.specs.Name.{name_text, shapes_of}
use Rattle.p3l_c_print.specs.Value.{index_text, spots_of}
use Rattle.p3l_c_print.proofs.Lines.{value_after}
use Rattle.p3l_c_print.proofs.Puts.{assign_put}
use Rattle.p3l_c_print.proofs.names.Names.put_assign.Goals as goal

pub returns-clause-lines : goal.returns-clause-lines
returns-clause-lines c =
    let names = c.args.self.now in
    let margin = c.args.margin.now in
    let x = c.args.target.now.at in
    let is = phrases c.args.target.now.index.items in
    let spots = c.in_ok-spots.spots in
    let value = c.in_ok-value.value in
    let old = string_bytes c.args.out.now in
    let two = string_bytes c.put_value.new.out in
    let told : spots ≡ spots_of 0 is = c.in_ok-spots.ensures.spots ∙ ap (λ items. spots_of 0 (phrases items)) c.deref.ensures.value in
    let first : string_bytes c.put_indices.new.out ≡ old ++ index_text names margin 0 (sizes_at (shapes_of names) x.name) is =
    c.in_ok-spots.ensures.lines ∙ ap (λ sizes. old ++ index_text names margin 0 sizes (phrases c.deref.result.now)) c.sizes.ensures
    ∙ ap (λ items. old ++ index_text names margin 0 (sizes_at (shapes_of names) x.name) (phrases items)) c.deref.ensures.value in
    let place = c.as_str.ensures ∙ c.in_ok-place.ensures ∙ ap (λ (s : Spots). name_text names x.name ++ s.text) told in
    assign_put names margin x is (phrase c.args.expr.now) old (string_bytes c.put_indices.new.out) two (string_bytes c.put_set.new.out) c.as_str.result.now c.as_str-2.result.now spots.after value
    (ap (λ (s : Spots). s.after) told) first c.in_ok-value.ensures.lines c.in_ok-value.ensures.value place (c.as_str-2.ensures ∙ c.in_ok-signed.ensures) c.in_ok-put_set.ensures

pub returns-clause-temps : goal.returns-clause-temps
returns-clause-temps c =
    let names = c.args.self.now in
    let e = phrase c.args.expr.now in
    let spots = c.in_ok-spots.spots in
    let told : spots ≡ spots_of 0 (phrases c.args.target.now.index.items) = c.in_ok-spots.ensures.spots ∙ ap (λ items. spots_of 0 (phrases items)) c.deref.ensures.value in
    ap (λ (v : Value). v.after) c.in_ok-value.ensures.value ∙ value_after names spots.after e ∙ ap (λ (s : Spots). next s.after e) told
