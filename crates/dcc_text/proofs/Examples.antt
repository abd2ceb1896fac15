-- Small expressions and statements as text, and calls that wait.
use Rattle.std.proofs.Common.{◌≡◌, ℕ, true, false, ◌==◌, List, [], ◌∷◌, Some, None, refl, sym, subst, true≢false, arith}
use Rattle.std.specs.Prelude.{codes, Contains, if◌then◌else◌}
use Rattle.dcc_num.specs.declared.Reg.TheVariants.{Ax}
use Rattle.dcc_num.specs.declared.Half.TheVariants.{Low as LowHalf, High}
use Rattle.dcc_num.specs.declared.FlagName.TheVariants.{Cf}
use Rattle.dcc_ir.specs.declared.syntax.Loc.{Loc}
use Rattle.dcc_ir.specs.declared.syntax.Loc.TheVariants.{Half, Flag, Cell, Temp}
use Rattle.dcc_ir.specs.declared.syntax.BinOp.TheVariants.{Add, DivS, LtS}
use Rattle.dcc_ir.specs.Tree as inner
use Rattle.dcc_ir.specs.Run.{Activation, Waiting, activation, no_graph}
use Rattle.dcc_c.specs.declared.syntax.Base.TheVariants.{Schar, Uchar, Int, Uint}
use Rattle.dcc_c.specs.declared.syntax.CUn.TheVariants.{Minus, Deref}
use Rattle.dcc_c.specs.declared.syntax.CBin.TheVariants.{And as BitAnd, Or as BitOr, Lt, Shl as ShiftLeft, Add as Plus, Div as Over, Mul as Times, Rem as Rest}
use Rattle.dcc_c.specs.Types.{plain, pointer_to}
use Rattle.dcc_c.specs.Run.{ends_function}
use Rattle.dcc_c.specs.Tree.{Number, Name, Unary, Binary, Cast, Assign, Call, no_lines, Function}
use Rattle.dcc_c.specs.Value.{ToVariable}
use Rattle.dcc_text.specs.Spelling.{Spelling}
use Rattle.dcc_text.specs.Spelled.{Low, Exact, text}
use Rattle.dcc_text.specs.Stmts.{stmt_text}
use Rattle.dcc_text.specs.Holding.{Setting, IsWaiting, target_for}

-- temporaries of a word: the first is signed, the second unsigned, the third a pointer to bytes; halves are unsigned
abbrev letter : Loc → List ℕ
letter (Temp n) = if n == 0 then codes "a" else if n == 1 then codes "b" else codes "p"
letter (Half r h) = codes "h"
letter (Flag f) = codes "f"
letter (Cell n h) = codes "c"

abbrev sample : Spelling
sample = record {
  bits = 16 ∷ 16 ∷ 16 ∷ [];
  named = λ l. true;
  name = letter;
  type = λ l. elim l [
    | Temp n ↦ if n == 0 then plain Int else if n == 1 then plain Uint else pointer_to Uchar
    | _ ↦ plain Uchar
  ];
  settled = λ l. false;
  place = λ distance. if distance == 2 then Some (record { name = codes "p1"; is_array = false; above = 0 }) else None;
  function = λ entry. codes "f_0012";
}

abbrev a : inner.Expr
a = inner.Get (Temp 0)

abbrev b : inner.Expr
b = inner.Get (Temp 1)

abbrev flag : inner.Expr
flag = inner.Get (Flag Cf)

-- `a + 5`, in the way that is wanted
low-sum : text sample Low false (inner.Binary Add 16 a (inner.Const 16 5)) ≡ Binary Plus (Name (codes "a")) (Number 5 Int)
low-sum = refl

exact-sum : text sample Exact false (inner.Binary Add 16 a (inner.Const 16 5)) ≡ Binary Plus (Cast (plain Uint) (Name (codes "a"))) (Number 5 Uint)
exact-sum = refl

-- `a < -5`, whose left operand votes by its type
signed-test : text sample Low false (inner.Binary LtS 16 a (inner.Const 16 65531)) ≡ Binary Lt (Name (codes "a")) (Unary Minus (Number 5 Int))
signed-test = refl

-- a word below a bound by its sign where its type has none
cast-test : text sample Low false (inner.Binary LtS 16 b a) ≡ Binary Lt (Cast (plain Int) (Name (codes "b"))) (Name (codes "a"))
cast-test = refl

-- two bytes as a word
pair : text sample Low false (inner.Join (inner.Get (Half Ax High)) (inner.Get (Half Ax LowHalf)))
    ≡ Binary BitOr (Binary ShiftLeft (Cast (plain Uint) (Name (codes "h"))) (Number 8 Int)) (Cast (plain Uint) (Name (codes "h")))
pair = refl

-- a flag that is not settled votes beneath `%` where it is widened, and is cut by `&` where nothing votes
widened-flag : text sample Low false (inner.Widen false 16 flag) ≡ Cast (plain Uint) (Binary Rest (Name (codes "f")) (Number 2 Int))
widened-flag = refl

quiet-flag : text sample Exact false flag ≡ Binary BitAnd (Name (codes "f")) (Number 1 Int)
quiet-flag = refl

-- a byte at a pointer to bytes, and a word at the same address
byte-load : text sample Low false (inner.Load 8 (inner.Get (Temp 2))) ≡ Unary Deref (Name (codes "p"))
byte-load = refl

word-load : text sample Low false (inner.Load 16 (inner.Get (Temp 2))) ≡ Unary Deref (Cast (pointer_to Uint) (Cast (plain Uint) (Name (codes "p"))))
word-load = refl

-- a division of signed bytes that may fault
byte-division : stmt_text sample 2 (inner.Div (Half Ax LowHalf) (inner.Binary DivS 8 (inner.Get (Half Ax LowHalf)) (inner.Get (Half Ax High))))
    ≡ Assign (Name (codes "h"))
    (Binary Over (Binary Over (Binary Times (Cast (plain Int) (Cast (plain Schar) (Name (codes "h")))) (Number 256 Int)) (Cast (plain Schar) (Name (codes "h")))) (Number 256 Int))
byte-division = refl

-- a call that gives a word, and where its result goes
a-call : stmt_text sample 2 (inner.Call (Temp 1 ∷ []) 0x12 (a ∷ []) 4) ≡ Call (Some (Name (codes "b"))) (codes "f_0012") (Name (codes "a") ∷ []) 4
a-call = refl

a-target : target_for sample (Temp 1 ∷ []) ≡ Some (ToVariable (codes "b"))
a-target = refl

-- A caller of one word waits for a result in its second temporary.

abbrev caller : Activation
caller = activation no_graph (λ l. 0) 100

abbrev waits : Waiting
waits = record { caller = caller; results = Temp 1 ∷ [] }

-- Nothing but the result matters after the call, and each continuation stands for each place.
abbrev no_function : Function
no_function = record { name = []; result = None; params = []; locals = []; body = no_lines; last = 0 }

abbrev setting : Setting
setting = record {
  spelling = λ g. record sample { bits = []; named = λ l. false; place = λ distance. None };
  function = λ g. no_function;
  matters = λ g block rest l. l ≡ Temp 1;
  Continues = λ rest g block stmts. Unit {0};
}

waits-for : IsWaiting setting waits (record { frame = record { function = no_function; base = 100; variables = [] }; rest = ends_function 0; target = Some (ToVariable (codes "b")) })
waits-for = record {
  function = refl;
  frame = record {
    bits = refl;
    base = refl;
    variables = λ l named. absurd (true≢false (sym named));
    values = λ l has. absurd (has.1 (subst (Contains (Temp 1 ∷ [])) (sym has.0) (0, omega arith, refl)));
    places = λ distance some. absurd (true≢false (sym some));
  };
  target = refl;
  continues = tt;
}
