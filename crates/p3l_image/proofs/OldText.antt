-- The images that have a spelling in version 1.
use Rattle.std.proofs.Common.{◌≡◌, ℤ, true, ◌&&◌, List, [], ◌∷◌, length, Option, Some, None, refl, sym, subst}
use Rattle.std.specs.List.{All, AllByRecursion, list_all}
use Rattle.std.proofs.lemmas.List.Elements.{All-from_recursion, recursion_from_All}
use Rattle.p3l_skel.specs.declared.tree.ModuleKind.{ModuleKind}
use Rattle.p3l_skel.specs.declared.tree.ModuleInfo.{ModuleInfo}
use Rattle.p3l_skel.specs.declared.tree.Tree.{Tree}
use Rattle.p3l_format.specs.Format.{within, coded, pair, after, as_form, counted, tagged, nothing}
use Rattle.p3l_format.specs.Numbers.{number, u8_format, u32_in, one_of}
use Rattle.p3l_format.specs.laws.Parts.{both_true, first_true, second_true}
use Rattle.p3l_tree_format.specs.declared.version.Version.{Version}
use Rattle.p3l_tree_format.specs.declared.version.Version.TheVariants.{One, Two}
use Rattle.p3l_tree_format.specs.Version.{version_format}
use Rattle.p3l_tree_format.specs.Rescue.{flag_format, number_format, rescue_format}
use Rattle.p3l_tree_format.specs.Module.{kind_format, name_format, module_format}
use Rattle.p3l_tree_format.specs.Tree.{modules_format, tree_format}
use Rattle.p3l_image.specs.declared.image.Image.{Image}
use Rattle.p3l_image.specs.Image.{magic, body_format, image_format, CanBeWritten, HasNoRescue, OldTextsHaveNoRescue}

-- in version 1 there is no rescue number
only_none : (kind : ModuleKind) (rescue : Option ℤ) → (rescue_format One kind).fits rescue ≡ true → rescue ≡ None
unfolding rescue_format nothing
only_none kind None e = refl
only_none kind (Some n) e = absurd cc

-- each version can say that there is none
none_fits : (version : Version) (kind : ModuleKind) → (rescue_format version kind).fits None ≡ true
unfolding rescue_format flag_format number_format nothing tagged within one_of coded u8_format
none_fits One kind = refl
none_fits Two kind = refl

module_none : (info : ModuleInfo) → (module_format One).fits info ≡ true → HasNoRescue info
unfolding module_format as_form pair
module_none info fits =
    let named : (name_format.fits info.name && (rescue_format One info.kind).fits info.rescue) ≡ true =
    second_true (kind_format.fits info.kind) _ fits in
    only_none info.kind info.rescue (second_true (name_format.fits info.name) _ named)

module_alike : (v w : Version) (info : ModuleInfo) → (module_format v).fits info ≡ true → HasNoRescue info → (module_format w).fits info ≡ true
unfolding module_format as_form pair
module_alike v w info fits none =
    let named : (name_format.fits info.name && (rescue_format v info.kind).fits info.rescue) ≡ true =
    second_true (kind_format.fits info.kind) _ fits in
    both_true (kind_format.fits info.kind) _ (first_true (kind_format.fits info.kind) _ fits)
    (both_true (name_format.fits info.name) _ (first_true (name_format.fits info.name) _ named)
    (subst (λ (r : Option ℤ). (rescue_format w info.kind).fits r ≡ true) (sym none) (none_fits w info.kind)))

modules_none : (infos : List ModuleInfo) → list_all (module_format One).fits infos ≡ true → AllByRecursion HasNoRescue infos
modules_none [] fits = tt
modules_none (info ∷ infos) fits = (
  module_none info (first_true ((module_format One).fits info) _ fits),
  modules_none infos (second_true ((module_format One).fits info) _ fits),
)

modules_alike : (v w : Version) (infos : List ModuleInfo) → list_all (module_format v).fits infos ≡ true → AllByRecursion HasNoRescue infos → list_all (module_format w).fits infos ≡ true
modules_alike v w [] fits none = refl
modules_alike v w (info ∷ infos) fits none =
    both_true ((module_format w).fits info) _ (module_alike v w info (first_true ((module_format v).fits info) _ fits) none.0)
    (modules_alike v w infos (second_true ((module_format v).fits info) _ fits) none.1)

list_alike : (v w : Version) (infos : List ModuleInfo) → (modules_format v).fits infos ≡ true → AllByRecursion HasNoRescue infos → (modules_format w).fits infos ≡ true
unfolding counted
list_alike v w infos fits none =
    let count = (u32_in 1 4294967295).fits (length infos) in
    both_true count _ (first_true count _ fits) (modules_alike v w infos (second_true count _ fits) none)

list_none : (infos : List ModuleInfo) → (modules_format One).fits infos ≡ true → AllByRecursion HasNoRescue infos
unfolding counted
list_none infos fits = modules_none infos (second_true ((u32_in 1 4294967295).fits (length infos)) _ fits)

tree_alike : (v w : Version) (tree : Tree) → (tree_format v).fits tree ≡ true → AllByRecursion HasNoRescue tree.modules → (tree_format w).fits tree ≡ true
unfolding tree_format as_form pair
tree_alike v w tree fits none =
    both_true ((modules_format w).fits tree.modules) _ (list_alike v w tree.modules (first_true ((modules_format v).fits tree.modules) _ fits) none)
    (second_true ((modules_format v).fits tree.modules) _ fits)

tree_none : (tree : Tree) → (tree_format One).fits tree ≡ true → AllByRecursion HasNoRescue tree.modules
unfolding tree_format as_form pair
tree_none tree fits = list_none tree.modules (first_true ((modules_format One).fits tree.modules) _ fits)

pub version_fits : (version : Version) → version_format.fits version ≡ true
unfolding version_format coded number
version_fits One = refl
version_fits Two = refl

-- the tree of an image that fits
tree_of : (v : Version) (image : Image) → image_format.fits (v, image) ≡ true → (tree_format v).fits image.tree ≡ true
unfolding image_format body_format after as_form pair
tree_of v image fits =
    let versioned = second_true ((u32_in magic magic).fits magic) (version_format.fits v && (body_format v).fits image) fits in
    let body = second_true (version_format.fits v) ((body_format v).fits image) versioned in
    first_true ((tree_format v).fits image.tree) _ (second_true ((u32_in 1 1024).fits image.cap) _ body)

-- an image fits in another version where its tree does
image_alike : (v w : Version) (image : Image) → image_format.fits (v, image) ≡ true → (tree_format w).fits image.tree ≡ true → image_format.fits (w, image) ≡ true
unfolding image_format body_format after as_form pair
image_alike v w image fits tree =
    let magical = (u32_in magic magic).fits magic in
    let versioned = second_true magical (version_format.fits v && (body_format v).fits image) fits in
    let body = second_true (version_format.fits v) ((body_format v).fits image) versioned in
    let cap = (u32_in 1 1024).fits image.cap in
    both_true magical _ (first_true magical _ fits)
    (both_true (version_format.fits w) _ (version_fits w)
    (both_true cap _ (first_true cap _ body)
    (both_true ((tree_format w).fits image.tree) _ tree (second_true ((tree_format v).fits image.tree) _ (second_true cap _ body)))))

pub old_texts : OldTextsHaveNoRescue
old_texts image = (
  λ old. let none = tree_none image.tree (tree_of One image old) in (
    image_alike One Two image old (tree_alike One Two image.tree (tree_of One image old) none),
    All-from_recursion HasNoRescue image.tree.modules none,
  ),
  λ new. image_alike Two One image new.0
      (tree_alike Two One image.tree (tree_of Two image new.0) (recursion_from_All HasNoRescue image.tree.modules new.1)),
)

-- an image with a spelling in some version has one in version 2
pub written_anew : (version : Version) (image : Image) → image_format.fits (version, image) ≡ true → CanBeWritten image
written_anew One image fits = ((old_texts image).0 fits).0
written_anew Two image fits = fits
