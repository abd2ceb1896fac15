-- The bodies of procedures one after another, and their numbers of arguments.
use Rattle.std.proofs.Common.{◌≡◌, ◌≢◌, ◌⊎◌, inl, inr, ◌<◌, ℕ, zero, suc, ◌+◌, ◌==◌, nat_eq, Bool, List, [], ◌∷◌, ◌++◌, take, length, get_or, All, Option, Some, None, refl, sym, ap, ◌∙◌, subst, true≢false, arith}
use Rattle.std.specs.Map.{update}
use Rattle.std.proofs.lemmas.Bool.{cases_eq}
use Rattle.std.proofs.lemmas.Bool.Decides.{Decides-eqb}
use Rattle.std.proofs.lemmas.Map.{update_here, update_apart}
use Rattle.std.proofs.lemmas.List.{take_more}
use Rattle.std.proofs.lemmas.List.Elements.{All-nil, All-push, All-weaker, Contains-append_left, Contains-push}
use Rattle.dcc_machine.specs.declared.image.Image.{Image}
use Rattle.dcc_prog.specs.declared.procedure.Layout.{Layout}
use Rattle.dcc_prog.specs.declared.procedure.Proc.{Proc}
use Rattle.dcc_prog.specs.declared.frame.Heights.{Heights}
use Rattle.dcc_prog.specs.Trail.{IsEntry}
use Rattle.dcc_prog.specs.Height.{IsRemoved}
use Rattle.dcc_prog.specs.Found.{IsFound}
use Rattle.dcc_prog.specs.Analysed.{AreHeightsOf}
use Rattle.dcc_frames.specs.declared.body.Body.{Body}
use Rattle.dcc_frames.specs.Body.{IsBodyOf, IsMeasured, AreMeasured, AreBodies, HasBody, AreCounts}
use Rattle.dcc_frames.proofs.Zipped.{zipped-push}

-- the procedure at a place, with its heights
module _ (image : Image) (layout : Layout) (procs : List Proc) (heights : Heights)
    (m : AreMeasured image layout procs heights) where
  entry-is :
      (start : Proc) (others : List Proc) → procs ≡ start ∷ others → (place : ℕ) (proc : Proc)
      → proc ≡ get_or procs place proc
      → place ≡ 0 → proc ≡ start
  entry-is start others is place proc read zero_is =
      read ∙ ap (λ l. get_or l place proc) is ∙ ap (λ i. get_or (start ∷ others) i proc) zero_is

  other-is :
      (start : Proc) (others : List Proc) (P : Proc → Type 0) → procs ≡ start ∷ others → All P others
      → (place : ℕ) (proc : Proc)
      → proc ≡ get_or procs place proc → place < length procs → place ≢ 0 → P proc
  other-is start others P is apart zero proc read inside other = absurd (other refl)
  other-is start others P is apart (suc place) proc read inside other =
      let long = ap length is in
      subst P (sym (read ∙ ap (λ l. get_or l (suc place) proc) is)) (apart place proc (omega (arith, inside, long)))

  pub measured-at :
      (place : ℕ) (proc : Proc) (given : List (ℕ × ℕ)) (removed : ℕ) (is_start : Bool) → place < length procs
      → proc ≡ get_or procs place proc → AreHeightsOf image layout proc given
      → IsRemoved image layout proc.entry removed
      → is_start ≡ (place == 0) → IsMeasured image layout proc given removed is_start
  measured-at place proc given removed is_start inside read heights_of removed_is start_is = record {
    is_entry =
        subst (λ (p : Proc). IsEntry image layout p.entry) (sym read) (m.found.reached place proc inside);
    found = subst (IsFound image layout) (sym read) (m.found.found place proc inside);
    heights_are = heights_of;
    removed_is = removed_is;
    accepted = m.heights_are.accepted;
    start = λ is.
        (let o = m.found.order in
        ap (λ (p : Proc). p.entry)
        (entry-is o.start o.others o.procs_are place proc read ((Decides-eqb place 0).0 (sym start_is ∙ is)))
        ∙ o.first);
    other = λ is.
        (let o = m.found.order in
        other-is o.start o.others (λ (p : Proc). p.entry ≢ layout.start_ip) o.procs_are o.apart place proc read inside
        (λ none. true≢false (sym ((Decides-eqb place 0).1 none) ∙ sym start_is ∙ is)));
  }

  pub bodies-more :
      (place : ℕ) (bodies : List Body) (proc : Proc) (body : Body) → place < length procs
      → proc ≡ get_or procs place proc
      → AreBodies image layout (take place procs) bodies → IsBodyOf image layout proc body
      → AreBodies image layout (take (place + 1) procs) (bodies ++ body ∷ [])
  bodies-more place bodies proc body inside read before one =
      subst (λ l. AreBodies image layout l (bodies ++ body ∷ []))
      (ap (λ p. take place procs ++ p ∷ []) read ∙ sym (take_more procs place proc inside))
      (zipped-push (IsBodyOf image layout) (take place procs) bodies proc body before one)

-- The numbers of arguments of procedures.

pub counts-none : (counts : ℕ → Option ℕ) → ((entry : ℕ) → counts entry ≡ None) → AreCounts [] counts
counts-none counts none = record {
  each = λ entry count found. absurd (let e = none entry in cc);
  every = All-nil (λ (body : Body). (count : ℕ) × (counts body.entry ≡ Some count));
}

module _ (bodies : List Body) (body : Body) (counts after : ℕ → Option ℕ) (before : AreCounts bodies counts)
    (updated : (entry : ℕ) → after entry ≡ update nat_eq counts body.entry (Some body.args) entry) where
  pushed : List Body
  pushed = bodies ++ body ∷ []

  found-more : (entry count : ℕ) → after entry ≡ Some count → (entry ≡ body.entry) ⊎ (entry ≢ body.entry)
      → HasBody pushed entry count
  unfolding pushed
  found-more entry count found (inl same) =
      let here : after body.entry ≡ Some body.args = updated body.entry
      ∙ update_here counts body.entry (Some body.args) in
      let both : Some body.args ≡ Some count = sym here ∙ ap after (sym same) ∙ found in
      record { body = body; among = Contains-push bodies body; entry_is = sym same; count_is = cc }
  found-more entry count found (inr apart) =
      let old = before.each entry count
      (sym (updated entry ∙ update_apart counts body.entry (Some body.args) entry apart) ∙ found) in
      record {
        body = old.body;
        among = Contains-append_left bodies (body ∷ []) old.body old.among;
        entry_is = old.entry_is;
        count_is = old.count_is;
      }

  has-count :
      (entry : ℕ) → ((count : ℕ) × (counts entry ≡ Some count)) → (entry ≡ body.entry) ⊎ (entry ≢ body.entry)
      → (count : ℕ) × (after entry ≡ Some count)
  has-count entry old (inl same) =
      (body.args, ap after same ∙ updated body.entry ∙ update_here counts body.entry (Some body.args))
  has-count entry old (inr apart) =
      (old.0, updated entry ∙ update_apart counts body.entry (Some body.args) entry apart ∙ old.1)

  pub counts-more : AreCounts (bodies ++ body ∷ []) after
  unfolding pushed
  counts-more = record {
    each = λ entry count found. found-more entry count found (cases_eq entry body.entry);
    every =
        All-push (λ (b : Body). (count : ℕ) × (after b.entry ≡ Some count)) bodies body
        (All-weaker (λ (b : Body). (count : ℕ) × (counts b.entry ≡ Some count))
        (λ (b : Body). (count : ℕ) × (after b.entry ≡ Some count))
        (λ b old. has-count b.entry old (cases_eq b.entry body.entry)) bodies before.every)
        (body.args, updated body.entry ∙ update_here counts body.entry (Some body.args));
  }
