-- Images are read as they are spelled.
use Rattle.std.proofs.Common.{◌≡◌, ◌≤◌, ℕ, List, true, ◌&&◌, leb, length, refl}
use Rattle.std.proofs.lemmas.Bool.{leb-true}
use Rattle.p3l_base.specs.Limits.{most_tokens}
use Rattle.p3l_image.specs.declared.image.Image.{Image}
use Rattle.p3l_format.specs.Format.{after, as_form, pair, within}
use Rattle.p3l_format.specs.Numbers.{u32_in, u32_format}
use Rattle.p3l_format.specs.Lawful.{IsLawful}
use Rattle.p3l_format.specs.laws.Parts.{first_true, second_true}
use Rattle.p3l_format.specs.laws.Formats.{lawful_pair, lawful_both, lawful_record, lawful_after}
use Rattle.p3l_format.specs.laws.Numbers.{lawful_u32_in, is_exact}
use Rattle.p3l_tree_format.specs.declared.version.Version.{Version}
use Rattle.p3l_tree_format.specs.Version.{version_format}
use Rattle.p3l_tree_format.specs.laws.Version.{lawful_version}
use Rattle.p3l_tree_format.specs.laws.Tree.{lawful_tree, lawful_counts}
use Rattle.p3l_tree_format.specs.declared.version.Version.TheVariants.{Two}
use Rattle.p3l_image.specs.Image.{magic, body_format, image_format, image_text, CanBeWritten, IsSpelling}
use Rattle.p3l_image.specs.laws.Instr.{lawful_codes}
use Rattle.p3l_image.specs.laws.Net.{lawful_net}

pub lawful_body : (version : Version) → IsLawful (body_format version)
unfolding body_format
lawful_body version = lawful_record _ _ _ (λ _. refl) (λ _. refl)
    (lawful_both _ _ (lawful_u32_in 1 most_tokens) (lawful_pair _ _ (lawful_tree version) (λ tree. lawful_both _ _ lawful_counts (lawful_both _ _ lawful_codes (lawful_net (length tree.nodes))))))

pub lawful_image : IsLawful image_format
unfolding image_format
lawful_image = lawful_after _ _ _ (is_exact magic) (lawful_u32_in magic magic) (lawful_pair _ _ lawful_version lawful_body)

-- the bytes of an image as it is written spell it
pub written_spells : (image : Image) (bytes : List ℕ) → CanBeWritten image → bytes ≡ image_text image → IsSpelling image bytes
written_spells image bytes fits are = record { version = Two; fits = fits; spelled = are }

-- the capacity of an image is in its range
pub capacity_in_range : (version : Version) (image : Image) → image_format.fits (version, image) ≡ true → (1 ≤ image.cap) × (image.cap ≤ most_tokens)
unfolding image_format body_format after as_form pair within
capacity_in_range version image fits =
    let after_magic : (version_format.fits version && (body_format version).fits image) ≡ true =
    second_true ((u32_in magic magic).fits magic) (version_format.fits version && (body_format version).fits image) fits in
    let body : (body_format version).fits image ≡ true = second_true (version_format.fits version) ((body_format version).fits image) after_magic in
    let cap : (u32_in 1 most_tokens).fits image.cap ≡ true = first_true ((u32_in 1 most_tokens).fits image.cap) _ body in
    let range : (leb 1 image.cap && leb image.cap most_tokens) ≡ true = second_true (u32_format.fits image.cap) (leb 1 image.cap && leb image.cap most_tokens) cap in
    (leb-true 1 image.cap (first_true (leb 1 image.cap) (leb image.cap most_tokens) range), leb-true image.cap most_tokens (second_true (leb 1 image.cap) (leb image.cap most_tokens) range))
