use Rattle.std.proofs.Common.{◌≡◌, ◌≤◌, true, ◌&&◌, length}
use Rattle.p3l_firing.specs.declared.net.Net.{Net}
use Rattle.p3l_format.specs.Format.{as_form, after, pair}
use Rattle.p3l_format.specs.Numbers.{u32_in}
use Rattle.p3l_format.specs.laws.Parts.{both_true, first_true, second_true}
use Rattle.p3l_tree_format.specs.declared.version.Version.TheVariants.{Two}
use Rattle.p3l_tree_format.specs.Tree.{counts_format, tree_format}
use Rattle.p3l_tree_format.specs.Version.{version_format}
use Rattle.p3l_image.specs.declared.image.Image.{Image}
use Rattle.p3l_image.specs.Image.{body_format, image_format, magic, CanBeWritten}
use Rattle.p3l_image.specs.Instr.{codes_format}
use Rattle.p3l_image.specs.Net.{net_format}
use Rattle.p3l_image.specs.laws.Image.{capacity_in_range}
use Rattle.p3l_image.proofs.OldText.{written_anew}
use Rattle.p3l_load.specs.Load.{IsRunnable, migrated_of}
use Rattle.p3l_load.specs.Written.{EveryMigratedImageCanBeWritten}
use Rattle.p3l_load.proofs.Nodes.{some_nodes}
use Rattle.p3l_load.proofs.Pieces.{net_fine}
use Rattle.p3l_load.proofs.Nets.{net_fits}
use Rattle.p3l_load.proofs.laws.every_migrated_image_can_be_written.Goals as goal

-- the net of a migrated image is in its ranges
relinked_fits : (image : Image) → IsRunnable (migrated_of image) → 1 ≤ image.cap → image.cap ≤ 1024 → (net_format (length image.tree.nodes)).fits (migrated_of image).net ≡ true
relinked_fits image is some few =
    let tree = image.tree in
    net_fits tree (migrated_of image).net (some_nodes tree is.whole.lawful) is.typed (net_fine image.cap some few tree image.counts.list is.whole.lawful)

-- and so are its other fields, which are those of the image
with_net : (image : Image) (net : Net) → CanBeWritten image → (net_format (length image.tree.nodes)).fits net ≡ true
    → CanBeWritten (record { cap = image.cap; tree = image.tree; counts = image.counts; codes = image.codes; net = net })
unfolding image_format body_format after as_form pair
with_net image net fits fine =
    let magical = (u32_in magic magic).fits magic in
    let cap = (u32_in 1 1024).fits image.cap in
    let tree = (tree_format Two).fits image.tree in
    let counts = counts_format.fits image.counts.list in
    let codes = codes_format.fits image.codes in
    let versioned = second_true magical (version_format.fits Two && (body_format Two).fits image) fits in
    let body = second_true (version_format.fits Two) ((body_format Two).fits image) versioned in
    let after_cap = second_true cap _ body in
    let after_tree = second_true tree _ after_cap in
    let after_counts = second_true counts _ after_tree in
    both_true magical _ (first_true magical _ fits)
    (both_true (version_format.fits Two) _ (first_true (version_format.fits Two) _ versioned)
    (both_true cap _ (first_true cap _ body)
    (both_true tree _ (first_true tree _ after_cap)
    (both_true counts _ (first_true counts _ after_tree)
    (both_true codes _ (first_true codes _ after_counts) fine)))))

written : EveryMigratedImageCanBeWritten
written image bytes read is =
    let cap = capacity_in_range read.version image read.fits in
    with_net image (migrated_of image).net (written_anew read.version image read.fits) (relinked_fits image is cap.0 cap.1)

pub returns : goal.returns
returns c = written
