-- Versions are read as they are spelled.
use Rattle.std.proofs.Common.{◌≡◌, ℕ, Bool, true, false, cond, eqb, Some, None, refl, sym, ap, ◌∙◌}
use Rattle.std.proofs.lemmas.Bool.{eqb-true}
use Rattle.p3l_format.specs.Lawful.{IsLawful}
use Rattle.p3l_format.specs.laws.Formats.{lawful_coded}
use Rattle.p3l_format.specs.laws.Parts.{some_is}
use Rattle.p3l_format.specs.laws.Numbers.{lawful_u32}
use Rattle.p3l_tree_format.specs.declared.version.Version.{Version}
use Rattle.p3l_tree_format.specs.declared.version.Version.TheVariants.{One, Two}
use Rattle.p3l_tree_format.specs.Version.{version_number, version_of, version_format}

version_there : (v : Version) → version_of (version_number v) ≡ Some v
version_there One = refl
version_there Two = refl

version_back : (n : ℕ) (v : Version) → version_of n ≡ Some v → version_number v ≡ n
version_back n v e = by (eqb n 1) (eqb n 2) refl refl e
  where
    by : (p q : Bool) → eqb n 1 ≡ p → eqb n 2 ≡ q → cond p (Some One) (cond q (Some Two) None) ≡ Some v → version_number v ≡ n
    by true q one two e = ap version_number (sym (some_is One v e)) ∙ sym (eqb-true n 1 one)
    by false true one two e = ap version_number (sym (some_is Two v e)) ∙ sym (eqb-true n 2 two)
    by false false one two e = absurd cc

pub lawful_version : IsLawful version_format
unfolding version_format
lawful_version = lawful_coded version_of version_number _ (λ n v _ e. version_back n v e) version_there lawful_u32
