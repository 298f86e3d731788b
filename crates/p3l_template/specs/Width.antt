-- The widths of channels: how many words a value in one has, and how many tags each token.
use Rattle.std.specs.Prelude.{ℕ, ◌-◌, List, ◌++◌, length, map, replicate, slice_index_or, take}
use Rattle.p3l_skel.specs.declared.tree.Tree.{Tree}
use Rattle.p3l_skel.specs.Tree.{node_at}
use Rattle.p3l_template.specs.declared.width.Width.{Width}

-- the width of a channel that carries credits; also what a number without a channel is read as
abbrev pub no_width : Width
no_width = record { words = 0; tags = 0 }

-- the width of channel c in a row of widths
abbrev pub width_at : List Width → ℕ → Width
width_at row c = slice_index_or row c no_width

-- the width of a channel for the in words of node k, or for its out words, with t tags
abbrev pub ins_width : Tree → (k t : ℕ) → Width
ins_width tree k t = record { words = (node_at tree k).ins; tags = t }

abbrev pub outs_width : Tree → (k t : ℕ) → Width
outs_width tree k t = record { words = (node_at tree k).outs; tags = t }

-- the channels between stages: behind each but the last, with what it gives
abbrev pub stage_widths : Tree → (t : ℕ) → List ℕ → List Width
stage_widths tree t parts = map (λ p. outs_width tree p t) (take (length parts - 1) parts)

-- the channels to n workers, and those from them
abbrev pub worker_widths : (n : ℕ) → Width → Width → List Width
worker_widths n before after = replicate n before ++ replicate n after
