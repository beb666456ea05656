-- What a read of a reply finds in its room is what the machine finds at the session's place.
use Rattle.std.{proofs.Common.{◌≡◌, ℕ, Option, Some, None, List, refl, sym, ap, subst, ◌∙◌}, specs.Prelude.{Result, Ok, Err, IfOk}}
use Rattle.{df_base.specs.{declared.Failed.{Failed}, Image.{Image}}, df_disk.specs.Told.{Told}, df_buffers.specs.Sounds.{Holding}}
use Rattle.df_layout.specs.{declared.damage.Class.{Class}, declared.layout.Layout.{Layout}, declared.places.Zone.TheVariants.{ClientReplies}}
use Rattle.df_format.{specs.{declared.kind.Kind.TheVariants.{Reply}, Message.{Message}, Own.{place_in}, Spelling.{IsCheck}, Valid.{IsOfSession, IsUnit}}, proofs.Laws.{valid_belongs}}
use Rattle.df_format.specs.Shown
use Rattle.{df_places.specs.Shelves.{HoldsFound, IsRead}, df_theory.specs.Units.{ReplyPlace}}
use Rattle.df_units.specs.{Bytes.{message_unit}, Meaning.{message_of, number_of}}
use Rattle.df_model.specs.{Commands.{ReadReply}, Supply.{class_or, reply_at, reply_given}}
use Rattle.df_model.specs.Memory as memory
use Rattle.df_opening.specs.Below.{DataFile, State, memory, reply_sum as known_sum}
use Rattle.df_replica.{specs.{declared.lookup.Stored.{Stored}, Lookups.{IsStoredFor, TellsShown, place_for, reply_shown}, Reading.{IsFoundBy, IsKnownUnit, message_at, shown_of}}, proofs.ReadFinds.{given, held_given, lacks_given, wanted_at}}

reply_case : (known : Option ℕ) (slot : ℕ) (o : Option Message) (class : Class)
    → reply_given known (message_unit (ReplyPlace slot) o) (class_or (message_unit (ReplyPlace slot) o) class) ≡ given known o class
reply_case known slot None class = refl
reply_case known slot (Some u) class = refl

reply_image : (file : DataFile) (image : Image) (known : Option ℕ) (slot : ℕ)
    → reply_at (shown_of file image) known slot ≡ given known (Shown.unit_at file.layout file.cluster image (place_in ClientReplies slot))
    (Shown.class_at file.layout file.cluster image (place_in ClientReplies slot))
reply_image file image known slot = reply_case known slot (Shown.unit_at file.layout file.cluster image (place_in ClientReplies slot))
    (Shown.class_at file.layout file.cluster image (place_in ClientReplies slot))

only_replies : (layout : Layout) (cluster slot : ℕ) (u : Message) → IsUnit layout cluster (place_in ClientReplies slot) u → u.header.kind ≡ Reply
only_replies layout cluster slot u is =
    let of : IsOfSession slot u.header = (valid_belongs layout cluster (place_in ClientReplies slot) u is).belongs in of.kind

-- ---- a reply that is known

module _ (file : DataFile) (place : ℕ) (check : List ℕ) (fits : IsCheck check) where
  pub known_tells : (told : Option Told) (wrong : Option Class) (held : Option Holding)
      → HoldsFound Reply (wanted_at file.layout file.cluster (place_in ClientReplies place) check) wrong held
      → IsRead Reply (wanted_at file.layout file.cluster (place_in ClientReplies place) check) told wrong held
      → TellsShown told (reply_shown file place (Some check)) wrong held
  known_tells None wrong held holds read = tt
  known_tells (Some t) None (Some h) holds read = held_given file.layout file.cluster (place_in ClientReplies place) check Reply t.shown
      fits (only_replies file.layout file.cluster place) h holds read ∙ sym (reply_image file t.shown (Some (number_of check)) place)
  known_tells (Some t) None None holds read = holds
  known_tells (Some t) (Some class) held holds read =
      lacks_given file.layout file.cluster (place_in ClientReplies place) check Reply t.shown
      fits (only_replies file.layout file.cluster place) class held read ∙ sym (reply_image file t.shown (Some (number_of check)) place)

  pub if_tells : (told : Option Told) (r : Result (Option Class) Failed) (held : Option Holding)
      → IfOk r (λ wrong. HoldsFound Reply (wanted_at file.layout file.cluster (place_in ClientReplies place) check) wrong held)
      → IfOk r (λ wrong. IsRead Reply (wanted_at file.layout file.cluster (place_in ClientReplies place) check) told wrong held)
      → IfOk r (λ wrong. TellsShown told (reply_shown file place (Some check)) wrong held)
  if_tells told (Ok wrong) held holds read = known_tells told wrong held holds read
  if_tells told (Err e) held holds read = tt

-- ---- the client's reply

module _ (s : State) (client : ℕ) (stored : Stored) (for : IsStoredFor s client stored) where
  found_there : (image : Image) → reply_shown s.file stored.place stored.reply image ≡ message_at s (ReadReply client) image
  found_there image = ap (λ (k : Option ℕ). reply_at (shown_of s.file image) k stored.place) (sym for.known)
      ∙ ap (λ (n : ℕ). reply_at (shown_of s.file image) (memory.reply_sum (memory s) n) n) for.place

  pub reply_found_by : (told : Option Told) (h : Holding) → TellsShown told (reply_shown s.file stored.place stored.reply) None (Some h)
      → IsFoundBy s (ReadReply client) told (Ok (message_of h.unit))
  reply_found_by None h tells = tt
  reply_found_by (Some t) h tells = tells ∙ found_there t.shown

  pub reply_lacks_by : (told : Option Told) (class : Class) (held : Option Holding)
      → TellsShown told (reply_shown s.file stored.place stored.reply) (Some class) held → IsFoundBy s (ReadReply client) told (Err class)
  reply_lacks_by None class held tells = tt
  reply_lacks_by (Some t) class held tells = tells ∙ found_there t.shown

  pub reply_known : (u : Message) → IsKnownUnit Reply s.file (place_in ClientReplies stored.place) (known_sum stored.reply) u
      → IsKnownUnit Reply s.file (place_in ClientReplies (place_for s client)) (memory.reply_sum (memory s) (place_for s client)) u
  reply_known u known = subst (λ (n : ℕ). IsKnownUnit Reply s.file (place_in ClientReplies n) (memory.reply_sum (memory s) n) u) for.place
      (subst (λ (k : Option ℕ). IsKnownUnit Reply s.file (place_in ClientReplies stored.place) k u) (sym for.known) known)
