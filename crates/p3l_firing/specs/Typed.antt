-- Nets that are typed for a tree: each process is placed as its kind requires, between channels
-- that carry the words and tags that it takes and gives; and the states of such nets.
use Rattle.std.specs.Prelude.{◌≡◌, ℕ, ◌<◌, ◌≤◌, Some, length, slice_get}
use Rattle.std.specs.List.{AllByRecursion}
use Rattle.p3l_skel.specs.declared.tree.Tree.{Tree}
use Rattle.p3l_skel.specs.Tree.{node_at}
use Rattle.p3l_skel.specs.Lawful.{IsLawfulTree}
use Rattle.p3l_firing.specs.declared.process.Proc.{Proc}
use Rattle.p3l_firing.specs.declared.process.ProcKind.TheVariants.{Source, Sink}
use Rattle.p3l_firing.specs.declared.net.Net.{Net}
use Rattle.p3l_firing.specs.Token.{most_tags}
use Rattle.p3l_firing.specs.State.{State, chan_at}
use Rattle.p3l_firing.specs.Process.{kind_at, all_ins, all_outs, times}
use Rattle.p3l_firing.specs.Widths.{Widths, Carries, AllFit}
pub use Rattle.p3l_firing.specs.kinds.{FitsKind, FitsOwn}

-- a channel of a net: room for a token at least, no more credits than room, one process that writes it and one that reads it;
-- what begins with credits carries no words and no tags
pub record FitsChannel (net : Net) (widths : Widths) (c : ℕ) : Type 0 where
  pub room : 0 < (chan_at net c).cap
  pub credits : (chan_at net c).credits ≤ (chan_at net c).cap
  pub written : times c (all_outs net.procs) ≡ 1
  pub read : times c (all_ins net.procs) ≡ 1
  pub bare : 0 < (chan_at net c).credits → Carries widths c 0 0

-- a net is typed for a lawful tree: process 0 is its only source, process 1 its only sink, and there are numbers of words and
-- tags that every channel and every process fits
pub record IsTyped (tree : Tree) (net : Net) : Type 0 where
  pub lawful : IsLawfulTree tree
  pub few_procs : length net.procs ≤ 1048576
  pub few_chans : length net.chans ≤ 1048576
  pub source : kind_at net 0 ≡ Some Source
  pub sink : kind_at net 1 ≡ Some Sink
  pub one_source : (p : ℕ) → kind_at net p ≡ Some Source → p ≡ 0
  pub one_sink : (p : ℕ) → kind_at net p ≡ Some Sink → p ≡ 1
  pub reads : AllByRecursion (λ c. c < length net.chans) (all_ins net.procs)
  pub writes : AllByRecursion (λ c. c < length net.chans) (all_outs net.procs)
  pub widths : Widths
  pub few_tags : (c : ℕ) → widths.tags c ≤ most_tags
  pub channels : (c : ℕ) → c < length net.chans → FitsChannel net widths c
  pub processes : (p : ℕ) (q : Proc) → slice_get net.procs p ≡ Some q → FitsKind q.kind tree widths q

-- in this state each channel holds no more tokens than its capacity, each token has the words and tags of its channel, what each
-- process keeps fits it, and each item has the root's in words
pub record IsFitting (tree : Tree) (net : Net) (widths : Widths) (s : State) : Type 0 where
  pub rooms : (c : ℕ) → length (s.tokens c) ≤ (chan_at net c).cap
  pub tokens : (c : ℕ) → AllFit widths c (s.tokens c)
  pub owns : (p : ℕ) (q : Proc) → slice_get net.procs p ≡ Some q → FitsOwn q.kind tree widths q (s.own p)
  pub unsent : AllByRecursion (λ words. length words ≡ (node_at tree 0).ins) s.unsent
