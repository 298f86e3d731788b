-- Files of traces.
use Rattle.std.specs.Prelude.{◌≡◌, ◌≢◌, ℕ, List, true, Option}
use Rattle.p3l_format.specs.FirstLine.{IsFirstBadLine}
use Rattle.p3l_io.specs.Content.{Held}
use Rattle.p3l_trace.specs.declared.trace.Traced.{Traced}
use Rattle.p3l_trace.specs.Text.{trace_format}
use Rattle.p3l_program.specs.File.{HasText}

-- the most bytes of a file of a trace
abbrev pub trace_limit : ℕ
trace_limit = 268435456

-- the file of this name spells this trace
pub record HasTrace (files : Option Held) (name : List ℕ) (traced : Traced) : Type 0 where
  pub text : List ℕ
  pub has : HasText files trace_limit name text
  pub fits : trace_format.fits traced ≡ true
  pub spelled : text ≡ trace_format.spell traced

-- a text spells no trace, and the line of this number is the first that isn't of its form
pub record SpellsNoTrace (text : List ℕ) (line : ℕ) : Type 0 where
  pub first : IsFirstBadLine trace_format text line
  pub no_trace : (traced : Traced) → trace_format.fits traced ≡ true → text ≢ trace_format.spell traced

-- so does the text of the file of this name
pub record HasNoTrace (files : Option Held) (name : List ℕ) (line : ℕ) : Type 0 where
  pub text : List ℕ
  pub has : HasText files trace_limit name text
  pub none : SpellsNoTrace text line
