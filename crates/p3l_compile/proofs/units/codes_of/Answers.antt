use Rattle.std.proofs.Common.{◌≡◌, ◌+◌, ◌++◌, ◌∷◌, [], List, map, take, sym, ap, ◌∙◌, subst}
use Rattle.std.proofs.lemmas.List.{map-append}
use Rattle.p3l_body.specs.Seq.{SeqTree, seq_tree}
use Rattle.p3l_code.specs.declared.instr.Code.{Code}
use Rattle.p3l_compile.specs.Leaves.{AreCodes}
use Rattle.p3l_compile.proofs.Leaves.{codes_more, compilable_at, take_next}
use Rattle.p3l_compile.proofs.units.codes_of.Goals as goal

pub compile-requires : goal.compile-requires
compile-requires c =
    compilable_at seq_tree c.args.seqs.now c.loop-seq.seq-index c.seq-item.result c.loop-seq-test.true c.seq-item.is c.requires

pub loop-seq-preserved : goal.loop-seq-preserved
loop-seq-preserved c =
    let seqs = c.args.seqs.now in
    let i = c.loop-seq.seq-index in
    let next : map seq_tree (take (i + 1) seqs) ≡ map seq_tree (take i seqs) ++ seq_tree c.seq-item.result ∷ [] =
    ap (map seq_tree) (take_next seqs i c.seq-item.result c.loop-seq-test.true c.seq-item.is) ∙ map-append seq_tree (take i seqs) (c.seq-item.result ∷ []) in
    let more = codes_more (map seq_tree (take i seqs)) c.loop-seq.codes (seq_tree c.seq-item.result) c.in_ok-compile.field-0 c.loop-seq.invariant c.in_ok-compile.ensures in
    subst (λ (l : List SeqTree). AreCodes l c.push.new.self) (sym next)
    (subst (λ (l : List Code). AreCodes (map seq_tree (take i seqs) ++ seq_tree c.seq-item.result ∷ []) l) (sym c.in_ok-push.ensures.ok) more)
