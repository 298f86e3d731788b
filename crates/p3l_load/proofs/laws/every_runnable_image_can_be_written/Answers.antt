use Rattle.std.proofs.Common.{◌≡◌, ◌≤◌, true, length, sym, subst, arith}
use Rattle.std.specs.List.{All}
use Rattle.std.proofs.lemmas.List.Sums.{count_by-le-length}
use Rattle.p3l_skel.specs.declared.tree.ModuleInfo.{ModuleInfo}
use Rattle.p3l_skel.specs.Counts.{counted}
use Rattle.p3l_firing.specs.declared.net.Net.{Net}
use Rattle.p3l_format.specs.Format.{as_form, after, pair}
use Rattle.p3l_format.specs.Numbers.{u32_in}
use Rattle.p3l_format.specs.laws.Parts.{both_true}
use Rattle.p3l_tree_format.specs.Tree.{counts_format, tree_format}
use Rattle.p3l_units.specs.Table.{is_seq_kind}
use Rattle.p3l_image.specs.declared.image.Image.{Image}
use Rattle.p3l_tree_format.specs.declared.version.Version.TheVariants.{Two}
use Rattle.p3l_tree_format.specs.Version.{version_format}
use Rattle.p3l_image.proofs.OldText.{version_fits}
use Rattle.p3l_image.specs.Image.{body_format, image_format, magic}
use Rattle.p3l_image.specs.Instr.{code_format, codes_format}
use Rattle.p3l_image.specs.Net.{net_format}
use Rattle.p3l_load.specs.Load.{IsRunnable}
use Rattle.p3l_load.specs.Written.{EveryRunnableImageCanBeWritten, HasAllOperands, HasName, HasRescueInRange}
use Rattle.p3l_load.proofs.Ranges.{fits_in, list_fits}
use Rattle.p3l_load.proofs.Below.{counts_fit, few_counted}
use Rattle.p3l_load.proofs.Nodes.{some_nodes, tree_fits}
use Rattle.p3l_load.proofs.SafeCodes.{codes_fit}
use Rattle.p3l_load.proofs.Pieces.{IsFine, net_fine}
use Rattle.p3l_load.proofs.Nets.{net_fits}
use Rattle.p3l_load.proofs.laws.every_runnable_image_can_be_written.Goals as goal

body_fits : (image : Image) → IsRunnable image → 1 ≤ image.cap → image.cap ≤ 1024 → All HasName image.tree.modules
    → All HasRescueInRange image.tree.modules → All HasAllOperands image.codes → (body_format Two).fits image ≡ true
unfolding body_format as_form pair
body_fits image is some few names rescues operands =
    let tree = image.tree in
    let lawful = is.whole.lawful in
    let counts = counts_fit tree (counted tree) image.counts.list is.whole.counted in
    let seqs = count_by-le-length (λ (m : ModuleInfo). is_seq_kind m.kind) tree.modules in
    let fine : IsFine image.net.procs image.net.chans =
    subst (λ (net : Net). IsFine net.procs net.chans) (sym is.linked) (net_fine image.cap some few tree image.counts.list lawful) in
    both_true ((u32_in 1 1024).fits image.cap) _ (fits_in 1 1024 image.cap some few (omega (arith, few)))
    (both_true ((tree_format Two).fits tree) _ (tree_fits tree lawful names rescues)
    (both_true (counts_format.fits image.counts.list) _
    (list_fits 0 (u32_in 1 512) image.counts.list (omega arith) (omega (arith, counts.1, few_counted tree lawful)) counts.0)
    (both_true (codes_format.fits image.codes) ((net_format (length tree.nodes)).fits image.net)
    (list_fits 0 code_format image.codes (omega arith) (omega (arith, is.whole.coded.one_each, seqs, lawful.few_modules)) (codes_fit image.codes is.safe operands))
    (net_fits tree image.net (some_nodes tree lawful) is.typed fine))))

image_fits : EveryRunnableImageCanBeWritten
unfolding image_format after pair
image_fits image is some few names rescues operands =
    both_true ((u32_in magic magic).fits magic) _ (fits_in magic magic magic (omega arith) (omega arith) (omega arith))
    (both_true (version_format.fits Two) ((body_format Two).fits image) (version_fits Two) (body_fits image is some few names rescues operands))

pub returns : goal.returns
returns c = image_fits
