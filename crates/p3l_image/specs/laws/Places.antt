-- Places at which the bytes of images are at fault, by the fields of spellings.
use Rattle.std.proofs.Common.{◌≡◌, ℕ, length, refl}
use Rattle.p3l_base.specs.Limits.{most_tokens}
use Rattle.p3l_ast.specs.declared.expression.UnOp.TheVariants.{Neg}
use Rattle.p3l_ast.specs.declared.expression.BinOp.TheVariants.{Or}
use Rattle.p3l_code.specs.declared.instr.Instr.TheVariants as instr
use Rattle.p3l_firing.specs.declared.process.ProcKind.TheVariants.{Source}
use Rattle.p3l_format.specs.Places.{IsPlaced}
use Rattle.p3l_format.specs.laws.Numbers.{is_exact, lawful_one_of}
use Rattle.p3l_format.specs.laws.Places.{CanTurn, has_all, one_u32_in, placed_after, placed_both, placed_counted, placed_form, placed_i64, placed_nothing, placed_one_of, placed_pair, placed_record, placed_tagged, placed_u32, placed_u32_below, placed_u32_in}
use Rattle.p3l_tree_format.specs.declared.version.Version.{Version}
use Rattle.p3l_tree_format.specs.laws.Places.{placed_counts, placed_indices, placed_tree, placed_version}
use Rattle.p3l_image.specs.declared.instr.InstrKind.{InstrKind}
use Rattle.p3l_image.specs.declared.instr.InstrKind.TheVariants as kind
use Rattle.p3l_image.specs.Image.{magic, body_format, image_format}
use Rattle.p3l_image.specs.Instr.{unaries, unary_number, unary_format, binaries, binary_number, binary_format, instr_kinds, instr_number, kind_of, whole_of, number_of, numbers_of, unary_of, binary_of, operands, instr_format, instrs_format, code_format, codes_format}
use Rattle.p3l_image.specs.Net.{chan_format, chans_format, proc_kinds, proc_number, proc_kind_format, proc_format, procs_format, net_format}
use Rattle.p3l_image.specs.laws.Instr.{kind_is, kind_there, lawful_binary, lawful_unary, of_binary, of_end, of_jump, of_jumpnonzero, of_jumpzero, of_load, of_loadat, of_push, of_step, of_store, of_storeat, of_turn, of_unary, operands_has}
use Rattle.p3l_image.specs.laws.Net.{lawful_proc_kind}

-- ---- codes

placed_unary : IsPlaced unary_format
placed_unary = placed_one_of unaries unary_number lawful_unary Neg

placed_binary : IsPlaced binary_format
placed_binary = placed_one_of binaries binary_number lawful_binary Or

unfoldable placed_operands : (k : InstrKind) → IsPlaced (operands k)
unfolding operands
placed_operands kind.Push = placed_form _ _ _ _ (record { back = λ _ _. refl; fine = λ _ _. refl; there = of_push }) placed_i64 (has_all (λ p. instr.Push p) _ _ (λ _. refl))
placed_operands kind.Load = placed_form _ _ _ _ (record { back = λ _ _. refl; fine = λ _ _. refl; there = of_load }) placed_u32 (has_all (λ p. instr.Load p) _ _ (λ _. refl))
placed_operands kind.Store = placed_form _ _ _ _ (record { back = λ _ _. refl; fine = λ _ _. refl; there = of_store }) placed_u32 (has_all (λ p. instr.Store p) _ _ (λ _. refl))
placed_operands kind.Step = placed_form _ _ _ _ (record { back = λ _ _. refl; fine = λ _ _. refl; there = of_step }) placed_u32 (has_all (λ p. instr.Step p) _ _ (λ _. refl))
placed_operands kind.LoadAt = placed_form _ _ _ _ (record { back = λ _ _. refl; fine = λ _ _. refl; there = of_loadat }) (placed_both _ _ placed_u32 placed_u32) (has_all (λ p. instr.LoadAt p.0 p.1) _ _ (λ _. refl))
placed_operands kind.StoreAt = placed_form _ _ _ _ (record { back = λ _ _. refl; fine = λ _ _. refl; there = of_storeat }) (placed_both _ _ placed_u32 placed_u32) (has_all (λ p. instr.StoreAt p.0 p.1) _ _ (λ _. refl))
placed_operands kind.Unary = placed_form _ _ _ _ (record { back = λ _ _. refl; fine = λ _ _. refl; there = of_unary }) placed_unary (has_all (λ p. instr.Unary p) _ _ (λ _. refl))
placed_operands kind.Binary = placed_form _ _ _ _ (record { back = λ _ _. refl; fine = λ _ _. refl; there = of_binary }) placed_binary (has_all (λ p. instr.Binary p) _ _ (λ _. refl))
placed_operands kind.Jump = placed_form _ _ _ _ (record { back = λ _ _. refl; fine = λ _ _. refl; there = of_jump }) placed_u32 (has_all (λ p. instr.Jump p) _ _ (λ _. refl))
placed_operands kind.JumpZero = placed_form _ _ _ _ (record { back = λ _ _. refl; fine = λ _ _. refl; there = of_jumpzero }) placed_u32 (has_all (λ p. instr.JumpZero p) _ _ (λ _. refl))
placed_operands kind.JumpNonZero = placed_form _ _ _ _ (record { back = λ _ _. refl; fine = λ _ _. refl; there = of_jumpnonzero }) placed_u32 (has_all (λ p. instr.JumpNonZero p) _ _ (λ _. refl))
placed_operands kind.Turn = placed_nothing _ _ refl of_turn
placed_operands kind.End = placed_nothing _ _ refl of_end

operands_turn : CanTurn kind_of operands placed_operands
unfolding placed_operands placed_nothing placed_form
operands_turn kind.Push w = (instr.Push (whole_of w), refl, refl)
operands_turn kind.Load w = (instr.Load (number_of w), refl, refl)
operands_turn kind.Store w = (instr.Store (number_of w), refl, refl)
operands_turn kind.Step w = (instr.Step (number_of w), refl, refl)
operands_turn kind.LoadAt w = (instr.LoadAt (numbers_of w).0 (numbers_of w).1, refl, refl)
operands_turn kind.StoreAt w = (instr.StoreAt (numbers_of w).0 (numbers_of w).1, refl, refl)
operands_turn kind.Unary w = (instr.Unary (unary_of w), refl, refl)
operands_turn kind.Binary w = (instr.Binary (binary_of w), refl, refl)
operands_turn kind.Jump w = (instr.Jump (number_of w), refl, refl)
operands_turn kind.JumpZero w = (instr.JumpZero (number_of w), refl, refl)
operands_turn kind.JumpNonZero w = (instr.JumpNonZero (number_of w), refl, refl)
operands_turn kind.Turn w = (instr.Turn, refl, refl)
operands_turn kind.End w = (instr.End, refl, refl)

placed_instr : IsPlaced instr_format
unfolding instr_format
placed_instr = placed_tagged _ _ _ (placed_one_of instr_kinds instr_number (lawful_one_of instr_kinds instr_number refl kind_there) kind.End) placed_operands (λ k v fits. kind_is k v (operands_has k v fits)) operands_turn kind.End

placed_instrs : IsPlaced instrs_format
placed_instrs = placed_counted _ _ (placed_u32_in 0 4294967295) (λ _. placed_instr)

placed_code : IsPlaced code_format
unfolding code_format
placed_code = placed_record _ _ _ (λ _. refl) (λ _. refl)
    (placed_both _ _ placed_u32 (placed_both _ _ placed_u32 (placed_both _ _ placed_u32 (placed_both _ _ placed_u32 placed_instrs))))

placed_codes : IsPlaced codes_format
placed_codes = placed_counted _ _ (placed_u32_in 0 4294967295) (λ _. placed_code)

-- ---- nets

placed_chan : IsPlaced chan_format
unfolding chan_format
placed_chan = placed_record _ _ _ (λ _. refl) (λ _. refl) (placed_pair _ _ (placed_u32_in 1 most_tokens) (λ cap. placed_u32_in 0 cap))

placed_chans : IsPlaced chans_format
placed_chans = placed_counted _ _ (placed_u32_in 0 4294967295) (λ _. placed_chan)

placed_proc_kind : IsPlaced proc_kind_format
placed_proc_kind = placed_one_of proc_kinds proc_number lawful_proc_kind Source

placed_proc : (nodes chans : ℕ) → IsPlaced (proc_format nodes chans)
unfolding proc_format
placed_proc nodes chans = placed_record _ _ _ (λ _. refl) (λ _. refl)
    (placed_both _ _ placed_proc_kind (placed_both _ _ (placed_u32_below nodes) (placed_both _ _ placed_u32 (placed_both _ _ (placed_indices chans) (placed_indices chans)))))

placed_procs : (nodes chans : ℕ) → IsPlaced (procs_format nodes chans)
unfolding procs_format
placed_procs nodes chans = placed_counted _ _ (placed_u32_in 0 4294967295) (λ _. placed_proc nodes chans)

placed_net : (nodes : ℕ) → IsPlaced (net_format nodes)
unfolding net_format
placed_net nodes = placed_record _ _ _ (λ _. refl) (λ _. refl) (placed_pair _ _ placed_chans (λ chans. placed_procs nodes (length chans)))

-- ---- images

placed_body : (version : Version) → IsPlaced (body_format version)
unfolding body_format
placed_body version = placed_record _ _ _ (λ _. refl) (λ _. refl)
    (placed_both _ _ (placed_u32_in 1 most_tokens) (placed_pair _ _ (placed_tree version) (λ tree. placed_both _ _ placed_counts (placed_both _ _ placed_codes (placed_net (length tree.nodes))))))

pub placed_image : IsPlaced image_format
unfolding image_format
placed_image = placed_after _ _ _ (is_exact magic) (one_u32_in magic magic) (placed_pair _ _ placed_version placed_body)
