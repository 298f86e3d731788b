use Rattle.std.proofs.Common.{◌≡◌, ◌∙◌, ◌++◌, ℕ, List, ap}
use Rattle.std.specs.Prelude.{codes, string_bytes}
use Rattle.std.specs.Fmt.{decimal}
use Rattle.p3l_skel.specs.declared.tree.Node.{Node}
use Rattle.p3l_skel.specs.Counts.{count_of}
use Rattle.p3l_skel.specs.Tree.{node_at}
use Rattle.p3l_model.specs.Service.{service}
use Rattle.p3l_alloc.specs.Explanation.{count_words, kind_name, module_name}
use Rattle.p3l_advise.specs.Lines.{indent, mark}
use Rattle.p3l_advise.proofs.Nodes.{grown, pieces}
use Rattle.p3l_advise.proofs.lines.put_line.Goals as goal

pub returns : goal.returns
returns c =
    let tree = c.args.tree.now in
    let counts = c.args.counts.now.list in
    let k : ℕ = c.args.number in
    let at = c.requires.node in
    let name : List ℕ = module_name tree (node_at tree k).module in
    let kind : List ℕ = kind_name (node_at tree k).form in
    let count : List ℕ = count_words (node_at tree k).form (count_of tree counts k) in
    let time : List ℕ = decimal (service tree c.args.costs.now counts k) in
    let names : c.name_of.result.now ≡ name = c.name_of.ensures ∙ ap (λ (n : Node). module_name tree n.module) at in
    let kinds : c.kind_name.result.now ≡ kind = c.kind_name.ensures ∙ ap (λ (n : Node). kind_name n.form) at in
    let counted : count_words c.args.node.now.form c.workers.result ≡ count = ap (λ (n : Node). count_words n.form c.workers.result) at ∙ ap (count_words (node_at tree k).form) c.workers.ensures in
    let timed : c.as_str.result.now ≡ codes " service " ++ time = c.as_str.ensures.value ∙ c.in_ok-words.ensures.ok ∙ ap (λ (t : ℕ). codes " service " ++ decimal t) c.service-time.ensures.number in
    pieces (string_bytes c.args.text.now) (string_bytes c.put_indent.new.text) (string_bytes c.push_str.new.self) (string_bytes c.push_str-2.new.self) (string_bytes c.push_str-3.new.self) (string_bytes c.put_count.new.text) (string_bytes c.push_str-4.new.self) (string_bytes c.put_mark.new.text) (string_bytes c.push_str-5.new.self)
    (indent c.args.depth) name (codes " ") kind count (codes " service ") time (mark tree c.args.costs.now counts k) (codes "\n")
    c.in_ok-put_indent.ensures
    (grown _ _ _ name c.in_ok-push_str.ensures.bytes names)
    c.in_ok-push_str-2.ensures.bytes
    (grown _ _ _ kind c.in_ok-push_str-3.ensures.bytes kinds)
    (grown _ _ _ count c.in_ok-put_count.ensures counted)
    (grown _ _ _ (codes " service " ++ time) c.in_ok-push_str-4.ensures.bytes timed)
    c.in_ok-put_mark.ensures
    c.in_ok-push_str-5.ensures.bytes
