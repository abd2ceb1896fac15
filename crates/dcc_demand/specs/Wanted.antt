-- Which locations are wanted where: those whose value a use may come to take, within a procedure, in those that it
-- calls and in those that call it (liveness by demand). By that, what procedures take and give back.
use Rattle.std.specs.Prelude.{◌≡◌, ℕ, true, false, Contains, Some}
use Rattle.dcc_demand.specs.Procedures.{Procedures, is_left, ChangeFamily, CallChanges}
use Rattle.dcc_demand.specs.Changes.{Changes}

-- which locations matter before which points of which procedures
abbrev pub WantedFamily : Type 0 → Type 0 → Type 1
WantedFamily Point Location = ℕ → Point → Location → Type 0

module _ {Point Location Word : Type 0} (p : Procedures Point Location Word) where
  -- The location is wanted before the point of the procedure, where calls change what is in the family. This is the
  -- least relation by these rules: the point uses it; or it is exposed; or what the point writes and makes of it is
  -- wanted after the point; or it is wanted after the point and not surely written there, nor changed by a call; or
  -- the point calls a procedure that wants it at its entry; or the procedure returns there, has changed it, and it is
  -- wanted after some call of the procedure.
  pub data IsWantedBy (changed : ChangeFamily Location) : ℕ → Point → Location → Type 0 where
    used : {i : ℕ} {a : Point} {location : Location} → ((p.procedure i).action a).uses location ≡ true
        → IsWantedBy changed i a location
    exposed : {i : ℕ} {a : Point} {location : Location} → (p.procedure i).is_exposed location ≡ true
        → IsWantedBy changed i a location
    made_of : {i : ℕ} {a b : Point} {location to : Location} → Contains ((p.procedure i).next a) b
        → is_left (((p.procedure i).action a).effect to) ≡ false
        → ((p.procedure i).action a).made_of to location ≡ true → IsWantedBy changed i b to
        → IsWantedBy changed i a location
    unwritten : {i : ℕ} {a b : Point} {location : Location} → Contains ((p.procedure i).next a) b
        → ((p.procedure i).action a).surely location ≡ false
        → ¬ CallChanges changed ((p.procedure i).action a).callee location → IsWantedBy changed i b location
        → IsWantedBy changed i a location
    taken : {i callee : ℕ} {a : Point} {location : Location} → ((p.procedure i).action a).callee ≡ Some callee
        → p.passes location ≡ true → IsWantedBy changed callee (p.procedure callee).entry location
        → IsWantedBy changed i a location
    given_back : {i caller : ℕ} {a call after : Point} {location : Location} → (p.procedure i).returns a ≡ true
        → changed i location → ((p.procedure caller).action call).callee ≡ Some i
        → Contains ((p.procedure caller).next call) after → IsWantedBy changed caller after location
        → IsWantedBy changed i a location

  -- what is wanted, where calls change what procedures change
  abbrev pub Wanted : WantedFamily Point Location
  Wanted = IsWantedBy (Changes p)

  -- what the procedure takes: what passes and is wanted at its entry
  pub record IsParam (i : ℕ) (location : Location) : Type 0 where
    pub passes : p.passes location ≡ true
    pub wanted : Wanted i (p.procedure i).entry location

  -- what the procedure gives back: what it changes and what is wanted after some call of it
  pub record IsResult (i : ℕ) (location : Location) : Type 0 where
    pub changes : Changes p i location
    pub caller : ℕ
    pub call : Point
    pub after : Point
    pub calls : ((p.procedure caller).action call).callee ≡ Some i
    pub goes : Contains ((p.procedure caller).next call) after
    pub wanted : Wanted caller after location

  -- the family is closed under the rules of what is wanted, where calls change what is in the other family
  pub record IsClosedUnderDemand (changed : ChangeFamily Location) (wanted : WantedFamily Point Location)
      : Type 0 where
    pub used : (i : ℕ) (a : Point) (location : Location) → ((p.procedure i).action a).uses location ≡ true
        → wanted i a location
    pub exposed : (i : ℕ) (a : Point) (location : Location) → (p.procedure i).is_exposed location ≡ true
        → wanted i a location
    pub made_of : (i : ℕ) (a b : Point) (location to : Location) → Contains ((p.procedure i).next a) b
        → is_left (((p.procedure i).action a).effect to) ≡ false
        → ((p.procedure i).action a).made_of to location ≡ true → wanted i b to → wanted i a location
    pub unwritten : (i : ℕ) (a b : Point) (location : Location) → Contains ((p.procedure i).next a) b
        → ((p.procedure i).action a).surely location ≡ false
        → ¬ CallChanges changed ((p.procedure i).action a).callee location → wanted i b location
        → wanted i a location
    pub taken : (i callee : ℕ) (a : Point) (location : Location) → ((p.procedure i).action a).callee ≡ Some callee
        → p.passes location ≡ true → wanted callee (p.procedure callee).entry location → wanted i a location
    pub given_back : (i caller : ℕ) (a call after : Point) (location : Location) → (p.procedure i).returns a ≡ true
        → changed i location → ((p.procedure caller).action call).callee ≡ Some i
        → Contains ((p.procedure caller).next call) after → wanted caller after location → wanted i a location
