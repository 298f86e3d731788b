use Rattle.std.proofs.Common.{◌≡◌, ◌∙◌, ◌++◌, ◌+◌, ◌*◌, ◌/◌, ℕ, List, max, min, ap}
use Rattle.std.specs.Int.{div_ceil}
use Rattle.std.specs.Prelude.{string_bytes}
use Rattle.p3l_skel.specs.declared.tree.Node.{Node}
use Rattle.p3l_skel.specs.Tree.{node_at}
use Rattle.p3l_model.specs.Service.{farm_ends, service, transfer}
use Rattle.p3l_alloc.specs.Explanation.{module_name}
use Rattle.p3l_advise.specs.Help.{farmed, sooner_words, wider, wider_help}
use Rattle.p3l_advise.proofs.help.put_wider.Goals as goal

pub returns : goal.returns
returns c =
    let tree = c.args.tree.now in
    let costs = c.args.costs.now in
    let counts = c.args.counts.now.list in
    let k : ℕ = c.args.number in
    let w : ℕ = c.args.fixed in
    let name : List ℕ = module_name tree (node_at tree k).module in
    let n : ℕ = wider tree counts c.args.idle w c.args.part in
    let each : ℕ = service tree costs counts c.args.part in
    let names : c.name_of-name.result.now ≡ name = c.name_of-name.ensures ∙ ap (λ (m : Node). module_name tree m.module) c.requires.node in
    let many : c.wider-workers.result ≡ n = c.wider-workers.ensures ∙ ap (λ (e : ℕ). min (w + c.args.idle / max e 1) 512) c.procs.ensures.number in
    let less : c.farmed-less.result ≡ farmed tree costs k n each =
    c.farmed-less.ensures ∙ ap (λ (m : Node). max (max (2 * transfer costs m.ins) (2 * transfer costs m.outs)) (div_ceil c.service.result c.wider-workers.result)) c.requires.node
    ∙ ap (λ (t : ℕ). max (farm_ends tree costs k) (div_ceil t c.wider-workers.result)) c.service.ensures.number
    ∙ ap (λ (m : ℕ). max (farm_ends tree costs k) (div_ceil each m)) many in
    let same : sooner_words c.name_of-name.result.now w c.wider-workers.result c.farmed-less.result c.service-time.result ≡ wider_help tree costs counts c.args.idle k w c.args.part =
    ap (λ (s : List ℕ). sooner_words s w c.wider-workers.result c.farmed-less.result c.service-time.result) names
    ∙ ap (λ (m : ℕ). sooner_words name w m c.farmed-less.result c.service-time.result) many
    ∙ ap (λ (l : ℕ). sooner_words name w n l c.service-time.result) less
    ∙ ap (λ (t : ℕ). sooner_words name w n (farmed tree costs k n each) t) c.service-time.ensures.number in
    c.in_ok-put_sooner.ensures ∙ ap (λ (s : List ℕ). string_bytes c.args.text.now ++ s) same
