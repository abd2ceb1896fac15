-- A small program whose callee takes a byte and gives one back that nothing reads: both may go. A near miss.
use Rattle.std.proofs.Common.{◌≡◌, ℕ, ◌==◌, refl, true, false, inr, List, [], ◌∷◌, Some, None}
use Rattle.std.specs.Prelude.{All}
use Rattle.std.proofs.lemmas.List.Elements.{All-nil, All-cons, All-head}
use Rattle.dcc_ir.specs.declared.syntax.Loc.{Loc}
use Rattle.dcc_ir.specs.declared.syntax.Loc.TheVariants.{Temp}
use Rattle.dcc_ir.specs.declared.syntax.Put.TheVariants.{One}
use Rattle.dcc_ir.specs.declared.syntax.Param.{Param}
use Rattle.dcc_ir.specs.Tree.{Expr, Const, Get, Stmt, Dos, Block, Graph, Program}
use Rattle.dcc_ir.specs.Location.{same_location}
use Rattle.dcc_ir.specs.WellFormed.{is_memory}
use Rattle.dcc_ir.specs.Keeps.{KeepsRuns}
use Rattle.dcc_ir.specs.Trimmed.{Trim, trimmed, IsUnread, GivesRead, IsTrimmable}
use Rattle.dcc_ir.proofs.CallingPrograms as calling
use Rattle.dcc_ir.proofs.CallingPrograms.{one}
use Rattle.dcc_ir.proofs.passes.TrimLaws.{unread_goes}

abbrev bytes : List ℕ
bytes = 8 ∷ 8 ∷ []

abbrev first_param : Param
first_param = record { stack = false; put = One (Temp 0) }

abbrev second_param : Param
second_param = record { stack = false; put = One (Temp 1) }

abbrev params : List Param
params = first_param ∷ second_param ∷ []

abbrev places : List Loc
places = Temp 0 ∷ Temp 1 ∷ []

abbrev arguments : List Expr
arguments = Const 8 65 ∷ Const 8 7 ∷ []

abbrev given_back : List Expr
given_back = Get (Temp 0) ∷ Const 8 9 ∷ []

-- the byte in the first temporary, which the caller writes after the call
abbrev told : Expr
told = Get (Temp 0)

-- two bytes pass each way, of which the first alone is read
abbrev whole : Program
whole = calling.program 0x02 told bytes bytes places arguments params given_back

-- the second byte goes, each way
abbrev first_alone : Trim
first_alone = record { takes = λ entry k. k == 0; gives = λ entry k. k == 0 }

abbrev whole_caller : Graph
whole_caller = calling.caller 0x02 told bytes bytes places arguments params given_back

abbrev whole_callee : Graph
whole_callee = calling.callee 0x02 told bytes bytes places arguments params given_back

abbrev whole_call : Stmt
whole_call = calling.call 0x02 told bytes bytes places arguments params given_back

abbrev whole_calling : Block
whole_calling = calling.calling_block 0x02 told bytes bytes places arguments params given_back

abbrev whole_last : Block
whole_last = calling.last_block 0x02 told bytes bytes places arguments params given_back

-- the second temporary isn't the first, which is all that is read
unread_second : IsUnread (Temp 0 ∷ []) (Temp 1)
unread_second = one (λ read. same_location read (Temp 1) ≡ false) (Temp 0) refl

callee_trimmable : IsTrimmable first_alone whole_callee
callee_trimmable = record {
  takes = one (IsUnread (Temp 0 ∷ [])) (Temp 1) unread_second;
  memory = inr (All-cons (λ q. is_memory q.put ≡ false) first_param (second_param ∷ []) refl (one (λ q. is_memory q.put ≡ false) second_param refl));
  gives = one (λ b. All (GivesRead first_alone (Temp 0 ∷ [])) b.stmts) _ (All-nil (GivesRead first_alone (Temp 0 ∷ [])));
}

caller_trimmable : IsTrimmable first_alone whole_caller
caller_trimmable = record {
  takes = All-nil (IsUnread (Temp 0 ∷ []));
  memory = inr (All-nil (λ q. is_memory q.put ≡ false));
  gives = All-cons (λ b. All (GivesRead first_alone (Temp 0 ∷ [])) b.stmts) whole_calling (whole_last ∷ [])
      (one (GivesRead first_alone (Temp 0 ∷ [])) whole_call (one (IsUnread (Temp 0 ∷ [])) (Temp 1) unread_second))
      (one (λ b. All (GivesRead first_alone (Temp 0 ∷ [])) b.stmts) whole_last (one (GivesRead first_alone (Temp 0 ∷ [])) (Dos 0x02 None (Some told)) tt));
}

second_byte_goes : KeepsRuns whole (trimmed first_alone whole)
second_byte_goes = unread_goes first_alone whole
    (calling.formed 0x02 told bytes bytes places arguments params given_back refl refl refl refl refl refl refl refl refl)
    (calling.formed 0x02 told bytes bytes (Temp 0 ∷ []) (Const 8 65 ∷ []) (first_param ∷ []) (Get (Temp 0) ∷ []) refl refl refl refl refl refl refl refl refl)
    (All-cons (IsTrimmable first_alone) whole_caller (whole_callee ∷ []) caller_trimmable (one (IsTrimmable first_alone) whole_callee callee_trimmable))

-- A near miss: the first byte is read, so it may not go.
abbrev second_alone : Trim
second_alone = record { takes = λ entry k. true; gives = λ entry k. k == 1 }

first_byte_stays : ¬ IsTrimmable second_alone whole_caller
first_byte_stays is =
    let here = All-head (λ b. All (GivesRead second_alone (Temp 0 ∷ [])) b.stmts) whole_calling (whole_last ∷ []) is.gives in
    let gone = All-head (GivesRead second_alone (Temp 0 ∷ [])) whole_call [] here in
    let unread = All-head (IsUnread (Temp 0 ∷ [])) (Temp 0) [] gone in
    let e = All-head (λ read. same_location read (Temp 0) ≡ false) (Temp 0) [] unread in
    cc
