use Rattle.std.proofs.Common.{◌≡◌, true, List, sym, ap, ◌∙◌, subst}
use Rattle.std.specs.List.{All}
use Rattle.std.proofs.lemmas.Result.{MatchResult-weaker}
use Rattle.p3l_skel.specs.declared.tree.ModuleInfo.{ModuleInfo}
use Rattle.p3l_skel.specs.declared.tree.Tree.{Tree}
use Rattle.p3l_skel.specs.Lawful.{IsLawfulTree}
use Rattle.p3l_code.specs.Safe.{IsSafe}
use Rattle.p3l_image.specs.declared.image.Image.{Image}
use Rattle.p3l_image.specs.Image.{CanBeWritten, image_text}
use Rattle.p3l_load.specs.Written.{HasAllOperands, HasRescueInRange}
use Rattle.p3l_load.specs.Compiled.{image_of}
use Rattle.p3l_load.proofs.Runnable.{IsMade, made}
use Rattle.p3l_load.proofs.compiled.image_text.Goals as goal

rescues_in : (infos : List ModuleInfo) (image other : Image) → infos ≡ image.tree.modules → image ≡ other → All HasRescueInRange infos → All HasRescueInRange other.tree.modules
rescues_in infos image other is same all = subst (λ (i : Image). All HasRescueInRange i.tree.modules) same (subst (All HasRescueInRange) is all)

pub image_of-requires-clause-lawful : goal.image_of-requires-clause-lawful
image_of-requires-clause-lawful c =
    let own = c.requires.program in
    subst (λ (t : Tree). IsLawfulTree t) (sym own.tree_is) own.comes.lawful

pub encode-requires : goal.encode-requires
encode-requires c =
    let same = c.in_ok-image.ensures.image in
    let codes = ap (λ (i : Image). i.codes) same in
    let whole : IsMade (image_of c.args.tree c.args.counts.list c.args.codes.now c.args.capacity) =
    made c.every_module_has_a_name.ensures c.every_compiled_image_can_be_run.ensures c.every_runnable_image_can_be_written.ensures
    c.args.tree c.args.codes.now c.args.counts.list c.args.capacity c.requires.program (subst (All IsSafe) codes c.in_ok-image.ensures.safe)
    (rescues_in c.as_slice.result.now c.in_ok-image.image _ c.as_slice.ensures same c.have_rescues.ensures)
    (subst (All HasAllOperands) (c.as_slice-2.ensures ∙ codes) c.have_operands.ensures) c.requires.counted c.requires.procs c.requires.some c.requires.few in
    subst CanBeWritten (sym same) whole.fits

pub returns : goal.returns
returns c =
    let same = c.in_ok-image.ensures.image in
    let image = image_of c.args.tree c.args.counts.list c.args.codes.now c.args.capacity in
    let codes = ap (λ (i : Image). i.codes) same in
    let whole : IsMade image =
    made c.every_module_has_a_name.ensures c.every_compiled_image_can_be_run.ensures c.every_runnable_image_can_be_written.ensures
    c.args.tree c.args.codes.now c.args.counts.list c.args.capacity c.requires.program (subst (All IsSafe) codes c.in_ok-image.ensures.safe)
    (rescues_in c.as_slice.result.now c.in_ok-image.image _ c.as_slice.ensures same c.have_rescues.ensures)
    (subst (All HasAllOperands) (c.as_slice-2.ensures ∙ codes) c.have_operands.ensures) c.requires.counted c.requires.procs c.requires.some c.requires.few in
    MatchResult-weaker c.encode.result c.encode.ensures
    (λ bytes e. record { runs = whole.runs; fits = whole.fits; bytes_are = e ∙ ap (λ (i : Image). image_text i) same })
    (λ want refused. refused)
