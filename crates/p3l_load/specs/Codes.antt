-- The codes that a tree needs.
use Rattle.std.specs.Prelude.{◌≡◌, ℕ, List, length, take, count_by, slice_get, IsSomeAnd}
use Rattle.std.specs.List.{All}
use Rattle.p3l_skel.specs.declared.tree.ModuleInfo.{ModuleInfo}
use Rattle.p3l_skel.specs.declared.tree.Tree.{Tree}
use Rattle.p3l_code.specs.declared.instr.Code.{Code}
use Rattle.p3l_code.specs.Safe.{IsSafe}
use Rattle.p3l_units.specs.Table.{HasCode, is_seq_kind}

-- the number of `seq` modules
abbrev pub seqs_in : List ModuleInfo → ℕ
seqs_in modules = count_by (λ (m : ModuleInfo). is_seq_kind m.kind) modules

-- there is one code for each `seq` module, in their order, with the words of that module's nodes
pub record HasCodes (tree : Tree) (codes : List Code) : Type 0 where
  pub one_each : length codes ≡ seqs_in tree.modules
  pub words : All (HasCode (record { tree = tree; codes = codes })) tree.nodes

-- the code of this number is the first that isn't safe
pub record IsFirstUnsafe (codes : List Code) (number : ℕ) : Type 0 where
  pub before : All IsSafe (take number codes)
  pub unsafe : IsSomeAnd (slice_get codes number) (λ code. ¬ IsSafe code)
