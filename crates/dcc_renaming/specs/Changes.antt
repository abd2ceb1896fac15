-- What a names file says: a change of a name in each line.
use Rattle.std.specs.Prelude.{◌≡◌, ◌≢◌, ◌≤◌, ◌<◌, ℕ, suc, Bool, true, ◌&&◌, List, [], ◌∷◌, ◌++◌, length, map, Option}
use Rattle.std.specs.Prelude.{Some, None, string_bytes}
use Rattle.std.specs.Option.{option_map}
use Rattle.std.specs.List.{flat_map, list_all, range_with_len}
use Rattle.dcc_c.specs.Token.{is_word}
use Rattle.dcc_c.specs.Tree.{Word}
use Rattle.dcc_renaming.specs.declared.new_name.NewName.{NewName}

-- One change: the function whose parameter or local variable gets the new name, or none where a global variable or a
-- function gets it; the name before and after; and the line that says so.
pub record Change : Type 0 where
  pub func : Option Word
  pub was : Word
  pub now : Word
  pub line : ℕ

-- the change that the declared type stands for
abbrev pub change_of : NewName → Change
change_of n = record {
  func = option_map string_bytes n.func;
  was = string_bytes n.was;
  now = string_bytes n.now;
  line = n.line;
}

-- how a names file names a thing: by its name, and a parameter or a local variable by its function, `.` and its name
abbrev pub in_file : Option Word → Word → Word
in_file None word = word
in_file (Some function) word = function ++ (46 ∷ word)

-- what gets the new name
abbrev pub thing_of : Change → Word
thing_of c = in_file c.func c.was

-- a line: what gets the new name, one space, the new name, and a line feed
abbrev pub spelled : Change → List ℕ
spelled c = thing_of c ++ (32 ∷ (c.now ++ (10 ∷ [])))

abbrev pub is_word_if : Option Word → Bool
is_word_if None = true
is_word_if (Some word) = is_word word

-- each name is a word of 1 to 31 letters, digits and `_`; a keyword is one, too
abbrev pub is_formed : Change → Bool
is_formed c = is_word_if c.func && (is_word c.was && is_word c.now)

-- the lines of changes, counted from 1
abbrev pub are_lines : List Change → Type 0
are_lines changes = map (λ c. c.line) changes ≡ range_with_len 1 (length changes)

-- the greatest number of bytes of a names file
abbrev pub file_most : ℕ
file_most = 262144

-- The bytes are a names file of these changes: each has its line.
pub record IsNamesFile (bytes : List ℕ) (changes : List Change) : Type 0 where
  pub short : length bytes ≤ file_most
  pub lines : are_lines changes
  pub formed : list_all is_formed changes ≡ true
  pub spelling : bytes ≡ flat_map spelled changes

-- The line after those of some changes is of no form: something stands there, and no change is spelled so.
pub record IsOfNoForm (bytes : List ℕ) (line : ℕ) : Type 0 where
  pub before : List Change
  pub rest : List ℕ
  pub formed : list_all is_formed before ≡ true
  pub spelling : bytes ≡ flat_map spelled before ++ rest
  pub some : 0 < length rest
  pub no_form : (c : Change) (following : List ℕ) → is_formed c ≡ true → rest ≢ spelled c ++ following
  pub at : line ≡ suc (length before)
