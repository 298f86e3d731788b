-- Modules are read as they are spelled.
use Rattle.std.proofs.Common.{◌≡◌, ℕ, true, eqb, ◌&&◌, List, length, Some, refl, ap}
use Rattle.std.proofs.lemmas.Bool.{eqb-true}
use Rattle.std.specs.List.{slice_get}
use Rattle.p3l_skel.specs.declared.tree.ModuleKind.{ModuleKind}
use Rattle.p3l_skel.specs.declared.tree.ModuleKind.TheVariants.{Seq, Comp, Pipe, Farm, Map, Reduce, Loop}
use Rattle.p3l_format.specs.Format.{pair, within}
use Rattle.p3l_format.specs.Numbers.{block, u8_in}
use Rattle.p3l_format.specs.Lawful.{IsLawful}
use Rattle.p3l_format.specs.laws.Parts.{first_true, second_true}
use Rattle.p3l_format.specs.laws.Formats.{lawful_within, lawful_pair, lawful_both, lawful_form, lawful_record}
use Rattle.p3l_format.specs.laws.Numbers.{lawful_u8_in, lawful_one_of, lawful_block}
use Rattle.p3l_tree_format.specs.declared.version.Version.{Version}
use Rattle.p3l_tree_format.specs.laws.Rescue.{lawful_rescue}
use Rattle.p3l_tree_format.specs.Module.{kinds, kind_number, kind_format, is_name, name_format, module_format}

kind_there : (k : ModuleKind) → slice_get kinds (kind_number k) ≡ Some k
kind_there Seq = refl
kind_there Comp = refl
kind_there Pipe = refl
kind_there Farm = refl
kind_there Map = refl
kind_there Reduce = refl
kind_there Loop = refl

pub lawful_kind : IsLawful kind_format
lawful_kind = lawful_one_of kinds kind_number refl kind_there

pub name_back : (a : ℕ × List ℕ) → (pair (u8_in 1 64) (λ n. within is_name (block n))).fits a ≡ true → (length a.1, a.1) ≡ a
unfolding pair within block
name_back a fits =
    let both : (eqb (length a.1) a.0 && is_name a.1) ≡ true = second_true ((u8_in 1 64).fits a.0) _ fits in
    let same : length a.1 ≡ a.0 = eqb-true _ _ (first_true (eqb (length a.1) a.0) (is_name a.1) both) in
    ap (λ (n : ℕ). (n, a.1)) same

pub lawful_name : IsLawful name_format
unfolding name_format
lawful_name = lawful_form _ _ _ _ (record { back = name_back; fine = λ _ _. refl; there = λ _ _. refl }) (lawful_pair _ _ (lawful_u8_in 1 64) (λ n. lawful_within is_name (block n) (lawful_block n)))

pub lawful_module : (version : Version) → IsLawful (module_format version)
unfolding module_format
lawful_module version = lawful_record _ _ _ (λ _. refl) (λ _. refl) (lawful_pair _ _ lawful_kind (λ kind. lawful_both _ _ lawful_name (lawful_rescue version kind)))
