-- Why a text is refused, and what offends in it.
use Rattle.std.specs.Prelude.{ℕ, nat_lt, ◌==◌, ◌&&◌, ◌||◌, Bool, if◌then◌else◌, List, [], ◌∷◌, Option, Some, None}

pub data Kind : Type 0 where
  -- the text has more than 67,108,864 bytes
  of_length : Kind
  -- the text's first line is no version line
  of_version : Kind
  -- bytes that are no token stand there
  of_token : Kind
  -- a token that the grammar does not allow stands there, or the text ends too early
  of_grammar : Kind
  of_name : Kind
  of_type : Kind
  of_place : Kind
  of_depth : Kind

-- the order of the kinds: of two offences at one place that with the lower number is named
abbrev pub rank : Kind → ℕ
rank of_length = 0
rank of_version = 1
rank of_token = 2
rank of_grammar = 3
rank of_name = 4
rank of_type = 5
rank of_place = 6
rank of_depth = 7

-- An offence, at a place in a text: the number of pieces after the version line and before it.
pub record Offence : Type 0 where
  pub at : ℕ
  pub kind : Kind

abbrev pub offence : Kind → ℕ → Offence
offence kind at = record { at = at; kind = kind }

-- the first offence stands before the second, or at the same place and is of an earlier kind
abbrev pub is_before : Offence → Offence → Bool
is_before a b = nat_lt a.at b.at || ((a.at == b.at) && nat_lt (rank a.kind) (rank b.kind))

-- the earlier of the first offence so far and another one
abbrev pub earlier : Option Offence → Offence → Option Offence
earlier None o = Some o
earlier (Some first) o = if is_before o first then Some o else Some first

-- the first of some offences and the earlier one so far
abbrev pub first_after : Option Offence → List Offence → Option Offence
first_after first [] = first
first_after first (o ∷ offences) = first_after (earlier first o) offences

-- the first of some offences
abbrev pub first_of : List Offence → Option Offence
first_of offences = first_after None offences

-- the offence, where the test holds
abbrev pub only_if : Bool → Offence → List Offence
only_if test o = if test then o ∷ [] else []
