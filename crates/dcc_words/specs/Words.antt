-- Graphs in which pairs of temporaries of 8 bits are words: what each of the two held is a half of the word.
use Rattle.std.specs.Prelude.{◌≡◌, ℕ, suc, ◌==◌, Bool, true, false, ◌&&◌, ◌||◌, List, [], ◌∷◌, ◌++◌, length, map}
use Rattle.std.specs.Prelude.{if◌then◌else◌, Contains}
use Rattle.std.specs.List.{AllZip, list_all, list_any}
use Rattle.dcc_ir.specs.declared.syntax.Loc.{Loc}
use Rattle.dcc_ir.specs.declared.syntax.Loc.TheVariants.{Temp}
use Rattle.dcc_ir.specs.declared.syntax.Put.{Put}
use Rattle.dcc_ir.specs.declared.syntax.Put.TheVariants.{Memory, One, Two}
use Rattle.dcc_ir.specs.declared.syntax.Param.{Param}
use Rattle.dcc_ir.specs.Tree.{Expr, Get, Part, Join, Stmt, Set, Block, Graph}
use Rattle.dcc_ir.specs.Location.{same_location, location_width}
use Rattle.dcc_ir.specs.Use.{reads_of, writes_of}
use Rattle.dcc_live.specs.Start.{begins_live}
use Rattle.dcc_words.specs.declared.roles.Pair.{Pair}
use Rattle.dcc_words.specs.declared.roles.Role.{Role}
use Rattle.dcc_words.specs.declared.roles.Role.TheVariants.{Alone, Low, High}
use Rattle.dcc_words.specs.Reading.{read_by, stmt_read_by, exit_read_by}

-- What a location is where pairs become words, the first of these the temporary of that number, and each further one the
-- next. Of a location in two pairs the first one tells.
abbrev pub role_among : List Pair → ℕ → Loc → Role
role_among [] word location = Alone
role_among (pair ∷ pairs) word location =
    if same_location location (Temp pair.low) then Low word
    else if same_location location (Temp pair.high) then High word
    else role_among pairs (suc word) location

-- what a location of a graph with these widths is; the words follow its temporaries
abbrev pub role_in : List Pair → List ℕ → Loc → Role
role_in pairs bits = role_among pairs (length bits)

abbrev pub is_alone : Role → Bool
is_alone Alone = true
is_alone _ = false

-- the half of the word in a temporary that begins at that bit
abbrev pub half_of : ℕ → ℕ → Expr
half_of word first = Part 8 first (Get (Temp word))

-- the Set of a word to its upper and its lower half
abbrev pub set_word : ℕ → Expr → Expr → Stmt
set_word word high low = Set (Temp word) (Join high low)

-- how a location is read: a half as a part of its word
abbrev pub reading_as : Role → Loc → Expr
reading_as Alone location = Get location
reading_as (Low word) location = half_of word 0
reading_as (High word) location = half_of word 8

-- what a Set becomes: that of a half a Set of the word, whose other half stays
abbrev pub set_as : Role → Loc → Expr → Stmt
set_as Alone location e = Set location e
set_as (Low word) location e = set_word word (half_of word 8) e
set_as (High word) location e = set_word word e (half_of word 0)

-- where an argument goes: that of both halves to the word
abbrev pub put_as : Role → Loc → Loc → Put
put_as (Low word) low high = One (Temp word)
put_as _ low high = Two low high

-- the two are no halves, or the lower and the upper half of one word
abbrev pub are_whole : Role → Role → Bool
are_whole Alone Alone = true
are_whole (Low word) (High word') = word == word'
are_whole _ _ = false

module _ (role : Loc → Role) where
  abbrev pub reading : Loc → Expr
  reading location = reading_as (role location) location

  -- the expression over words
  abbrev pub in_words : Expr → Expr
  in_words e = read_by reading e

  abbrev pub stmt_in_words : Stmt → Stmt
  stmt_in_words (Set location e) = set_as (role location) location (in_words e)
  stmt_in_words stmt = stmt_read_by reading stmt

  -- The third statement is the Set of a word for the Sets of both its halves, of which the second doesn't read what the
  -- first one sets.
  pub data IsSetOfBoth : Stmt → Stmt → Stmt → Type 0 where
    lower_first : {low high : Loc} {word : ℕ} {e f : Expr} → role low ≡ Low word → role high ≡ High word
        → ¬ Contains (reads_of f) low
        → IsSetOfBoth (Set low e) (Set high f) (set_word word (in_words f) (in_words e))
    upper_first : {low high : Loc} {word : ℕ} {e f : Expr} → role low ≡ Low word → role high ≡ High word
        → ¬ Contains (reads_of f) high
        → IsSetOfBoth (Set high e) (Set low f) (set_word word (in_words e) (in_words f))

  -- the second statements are the first ones over words, with one Set for some Sets of both halves
  pub data AreInWords : List Stmt → List Stmt → Type 0 where
    done : AreInWords [] []
    each : {stmt : Stmt} {rest rest' : List Stmt} → AreInWords rest rest'
        → AreInWords (stmt ∷ rest) (stmt_in_words stmt ∷ rest')
    both : {stmt next new : Stmt} {rest rest' : List Stmt} → IsSetOfBoth stmt next new → AreInWords rest rest'
        → AreInWords (stmt ∷ next ∷ rest) (new ∷ rest')

  pub record IsBlockInWords (before after : Block) : Type 0 where
    pub at : after.at ≡ before.at
    pub stmts : AreInWords before.stmts after.stmts
    pub exit : after.exit ≡ exit_read_by reading before.exit

  abbrev pub put_in_words : Put → Put
  put_in_words (Two low high) = put_as (role low) low high
  put_in_words put = put

  abbrev pub param_in_words : Param → Param
  param_in_words p = record p { put = put_in_words p.put }

  -- no half takes an argument but together with the other half of its word
  abbrev pub takes_whole : Put → Bool
  takes_whole Memory = true
  takes_whole (One location) = is_alone (role location)
  takes_whole (Two low high) = are_whole (role low) (role high)

  -- no half is written but by a Set
  abbrev pub writes_whole : Stmt → Bool
  writes_whole (Set location e) = true
  writes_whole stmt = list_all (λ location. is_alone (role location)) (writes_of stmt)

-- both are temporaries of 8 bits
abbrev pub are_halves : List ℕ → Pair → Bool
are_halves bits pair = (location_width bits (Temp pair.low) == 8) && (location_width bits (Temp pair.high) == 8)

-- the argument goes to the location
abbrev pub goes_to : Loc → Put → Bool
goes_to location Memory = false
goes_to location (One place) = same_location location place
goes_to location (Two low high) = same_location location low || same_location location high

-- one of the params takes its argument in the location
abbrev pub takes_argument : List Param → Loc → Bool
takes_argument params location = list_any (λ p. goes_to location p.put) params

-- The pairs may become words: the halves have 8 bits, take arguments together and are written by Sets alone; and one
-- that is live where the graph begins takes an argument.
pub record MayBecomeWords (pairs : List Pair) (graph : Graph) : Type 0 where
  pub halves : list_all (are_halves graph.bits) pairs ≡ true
  pub params : list_all (λ p. takes_whole (role_in pairs graph.bits) p.put) graph.params ≡ true
  pub start : (location : Loc) → begins_live graph location ≡ true
      → (is_alone (role_in pairs graph.bits location) || takes_argument graph.params location) ≡ true
  pub written : list_all (λ b. list_all (writes_whole (role_in pairs graph.bits)) b.stmts) graph.blocks ≡ true

-- The second graph is the first one, with words for the pairs.
pub record IsWithWords (pairs : List Pair) (before after : Graph) : Type 0 where
  pub entry : after.entry ≡ before.entry
  pub params : after.params ≡ map (param_in_words (role_in pairs before.bits)) before.params
  pub local : after.local ≡ before.local
  pub pushed : after.pushed ≡ before.pushed
  pub blocks : AllZip (IsBlockInWords (role_in pairs before.bits)) before.blocks after.blocks
  pub bits : after.bits ≡ before.bits ++ map (λ pair. 16) pairs

-- The second graph is the first one, or that with words for some pairs that may become words.
pub data ReadsWords (before after : Graph) : Type 0 where
  same : after ≡ before → ReadsWords before after
  words : (pairs : List Pair) → MayBecomeWords pairs before → IsWithWords pairs before after → ReadsWords before after
