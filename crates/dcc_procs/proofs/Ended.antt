-- The search from its start to its end.
use Rattle.std.proofs.Common.{◌≡◌, ◌≢◌, ◌⊎◌, inl, inr, ℕ, ◌<◌, List, [], ◌∷◌, ◌++◌, length, Contains, Option, Some, None, refl, sym, ap, ◌∙◌, subst, arith, length-append}
use Rattle.std.proofs.lemmas.List.Elements.{Contains-append_left, Contains-push, Contains-push_cases}
use Rattle.dcc_machine.specs.declared.image.Image.{Image}
use Rattle.dcc_prog.specs.declared.procedure.Layout.{Layout}
use Rattle.dcc_machine.specs.declared.instr.Instr.{Instr}
use Rattle.dcc_prog.specs.Trail.{IsTrail}
use Rattle.dcc_procs.specs.declared.known.Known.{Known}
use Rattle.dcc_procs.specs.Known.{nothing, known_after, told, successors_by}
use Rattle.dcc_procs.specs.Search.{Covers, Tells, IsAccepted, Work, seen_at, measure, IsFresh, IsArrived, IsSound, Extends, IsFollowed, AreAllSeen}
use Rattle.dcc_procs.proofs.Knowing.{covers-after}
use Rattle.dcc_procs.proofs.Witnessing.{told-onward, trail-same, witnessed-entry}
use Rattle.dcc_procs.proofs.Searching.{alone, arrives, sound-fresh}

-- the instruction at an offset was followed: what is known at its successors is so of what its trails tell
pub record IsClosed (image : Image) (layout : Layout) (entry : ℕ) (work : Work) (at : ℕ) (known : Known) : Type 0 where
  pub instr : Instr
  pub accepted : IsAccepted image layout entry at known instr
  pub onward :
      (to : ℕ) → Contains (successors_by image at instr known) to → (t : Known) → Covers
      (known_after at instr to known) t → Tells (seen_at work.seen to) t

-- what is seen is so by trails, and is followed or is to be
pub record Searched (image : Image) (layout : Layout) (entry : ℕ) (work : Work) : Type 0 where
  pub sound : IsSound image layout entry work
  pub start : Tells (seen_at work.seen entry) nothing
  pub closed :
      (at : ℕ) (known : Known) → seen_at work.seen at ≡ Some known → Contains work.pending at ⊎ IsClosed image
      layout entry work at known

-- the trail of the entry alone
pub searched-start :
    (image : Image) (layout : Layout) (entry : ℕ) (old new : Work) → entry < 65536 → IsFresh old
    → IsArrived old new entry nothing → Searched image layout entry new
searched-start image layout entry old new inside fresh came =
    let a =
    arrives image layout entry old new entry nothing (sound-fresh image layout entry old fresh) inside
    (witnessed-entry image layout entry) (alone fresh.order refl) came in
    record {
      sound = a.sound;
      start = a.tells nothing (record { ah = λ n e. e; form = λ n e. e; index = λ n e. e; from = λ n e. e });
      closed = λ at known is. elim (a.extends.stays at) [
        | inr waits ↦ inl waits
        | inl same ↦ (let clash = sym (same ∙ fresh.none at) ∙ is in cc)
      ];
    }

-- One more instruction.

closed-stays :
    (image : Image) (layout : Layout) (entry : ℕ) (old new : Work) (at : ℕ) (known : Known) → Extends old new
    → IsClosed image layout entry old at known → IsClosed image layout entry new at known
closed-stays image layout entry old new at known e c = record {
  instr = c.instr;
  accepted = c.accepted;
  onward = λ to inside t covers. e.tells to t (c.onward to inside t covers);
}

-- what is said of a search whose last pending offset is taken
pub popped-sound :
    (image : Image) (layout : Layout) (entry : ℕ) (seen : List (Option Known)) (order rest : List ℕ) (at : ℕ)
    → IsSound image layout entry (record { seen = seen; order = order; pending = rest ++ at ∷ [] })
    → IsSound image layout entry (record { seen = seen; order = order; pending = rest })
popped-sound image layout entry seen order rest at s = record {
  length_is = s.length_is;
  witnessed = s.witnessed;
  order = s.order;
  waiting = λ i c. s.waiting i (Contains-append_left rest (at ∷ []) i c);
}

module _ (image : Image) (layout : Layout) (entry : ℕ) (seen : List (Option Known)) (order rest : List ℕ) (at : ℕ)
    (after : Work)
    (before : Searched image layout entry (record { seen = seen; order = order; pending = rest ++ at ∷ [] }))
    (f : IsFollowed image layout entry at (record { seen = seen; order = order; pending = rest }) after) where
  closed-here :
      (known : Known) → seen_at after.seen at ≡ Some known
      → Contains after.pending at ⊎ IsClosed image layout entry after at known
  closed-here known is = elim (f.extends.stays at) [
    | inr waits ↦ inl waits
    | inl same ↦
        let both = sym is ∙ same ∙ f.was in
        let one : known ≡ f.known = cc in
        inr
        (subst (IsClosed image layout entry after at) (sym one) (record { instr = f.instr; accepted = f.accepted; onward = f.onward }))
  ]

  closed-after :
      (i : ℕ) (known : Known) → seen_at after.seen i ≡ Some known
      → Contains after.pending i ⊎ IsClosed image layout entry after i known
  closed-after i known is = elim (f.extends.stays i) [
    | inr waits ↦ inl waits
    | inl same ↦ elim (before.closed i known (sym same ∙ is)) [
      | inr closed ↦
          inr
          (closed-stays image layout entry (record { seen = seen; order = order; pending = rest }) after i known f.extends (record { instr = closed.instr; accepted = closed.accepted; onward = closed.onward }))
      | inl there ↦ elim (Contains-push_cases rest at i there) [
        | inl waits ↦ inl (f.extends.waits i waits)
        | inr here ↦
            subst (λ j. Contains after.pending j ⊎ IsClosed image layout entry after j known) here
            (closed-here known (ap (seen_at after.seen) here ∙ is))
      ]
    ]
  ]

  pub searched-followed : Searched image layout entry after
  searched-followed = record {
    sound = f.sound;
    start = f.extends.tells entry nothing before.start;
    closed = closed-after;
  }

  pub measure-followed : measure after < measure (record { seen = seen; order = order; pending = rest ++ at ∷ [] })
  measure-followed =
      let less = f.extends.less in
      let more = length-append rest (at ∷ []) in
      omega (arith, less, more)

-- what was to be followed is seen
pub waiting-here :
    (image : Image) (layout : Layout) (entry : ℕ) (seen : List (Option Known)) (order rest : List ℕ) (at : ℕ)
    → Searched image layout entry (record { seen = seen; order = order; pending = rest ++ at ∷ [] })
    → seen_at seen at ≢ None
waiting-here image layout entry seen order rest at s = s.sound.waiting at (Contains-push rest at)

-- The end: nothing is left to follow.

module _ (image : Image) (layout : Layout) (entry : ℕ) (work : Work) (none : work.pending ≡ [])
    (s : Searched image layout entry work) where
  closed-at : (at : ℕ) (known : Known) → seen_at work.seen at ≡ Some known → IsClosed image layout entry work at known
  closed-at at known is = elim (s.closed at known is) [
    | inl waits ↦ absurd (let e = ap length none in let inside = waits.1 in omega (arith, e, inside))
    | inr closed ↦ closed
  ]

  told-by :
      (before : List ℕ) (at : ℕ) → IsTrail image layout entry (at ∷ before)
      → Tells (seen_at work.seen at) (told image layout at before)
  told-by [] at trail = subst (λ n. Tells (seen_at work.seen n) nothing) (sym trail) s.start
  told-by (last ∷ rest) at trail = onward (seen_at work.seen last) refl (told-by rest last trail.1)
    where
      onward :
          (known : Option Known) → seen_at work.seen last ≡ known → Tells known (told image layout last rest)
          → Tells (seen_at work.seen at) (told image layout at (last ∷ rest))
      onward None is t = absurd t
      onward (Some known) is t =
          let c = closed-at last known is in
          let there =
          subst (λ l. Contains l at) (trail-same image layout entry last known c.instr c.accepted rest t) trail.0
          in
          c.onward at there (told image layout at (last ∷ rest))
          (subst (Covers (known_after last c.instr at known)) (sym (told-onward image layout entry last known c.instr c.accepted at rest)) (covers-after last c.instr at known (told image layout last rest) t))

  pub all-seen : AreAllSeen image layout entry work.seen
  all-seen = record {
    length_is = s.sound.length_is;
    told = λ at before trail. told-by before at trail;
    witnessed = s.sound.witnessed;
    accepted = λ at known is. let c = closed-at at known is in (c.instr, c.accepted);
  }
