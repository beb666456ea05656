-- What was scanned is what the theory's image shows, and the class of a slot that doesn't answer is the shown one.
use Rattle.std.{proofs.{Common.{◌≡◌, ℕ, ◌<◌, ◌≤◌, List, Option, Some, None, refl, sym, ◌∙◌, ap, subst, arith}, lemmas.Option.{slice_get_within}}, specs.{Prelude.{Result}, List.{slice_get}}}
use Rattle.{df_base.specs.Image.{Image}, df_layout.specs.declared.{damage.Class.{Class}, layout.Layout.{Layout}}}
use Rattle.df_format.{specs.{declared.header.Header.{Header}, Message.{Message}, Shown.{bytes_of, class_at, header_or_class, unit_at}}, proofs.Laws.{shown_belongs, valid_stale}}
use Rattle.{df_theory.specs.Units.{ReplyPlace}, df_units.specs.{Meaning.{message_of}, Bytes.{message_unit}}}
use Rattle.df_units.specs.Bytes
use Rattle.df_places.specs.Units.{header_at}
use Rattle.df_replies.specs.{declared.answers.Lacking.{Lacking}, Slots.{reply_place}, Shown.{ScannedIsShown, ShowsReply}, Answers.{HasClass, class_of_reply}}

entry_shown : (k : ℕ) (o : Option Message) (class : Class) → ShowsReply (message_unit (ReplyPlace k) o) (header_or_class o class)
entry_shown k None class = refl
entry_shown k (Some u) class = (message_of u, refl, refl)

none_past : (layout : Layout) (cluster k : ℕ) (image : Image) (o : Option Message)
    → layout.clients ≤ k → unit_at layout cluster image (reply_place k) ≡ o → o ≡ None
none_past layout cluster k image None past is = refl
none_past layout cluster k image (Some u) past is =
    let has : k < layout.clients = (shown_belongs layout cluster image (reply_place k) u is).has in absurd (omega arith)

pub scanned_shown : ScannedIsShown
scanned_shown layout cluster t replies is = record {
  each = λ k reply at. let seen : reply ≡ header_at layout cluster t.shown (reply_place k) =
      is.seen k reply (omega (arith, is.size, slice_get_within replies k reply at)) at in
      subst (ShowsReply (Bytes.unit_at layout cluster t.shown (ReplyPlace k)))
      (sym seen) (entry_shown k (unit_at layout cluster t.shown (reply_place k)) (class_at layout cluster t.shown (reply_place k)));
  no_more = λ k past. ap (message_unit (ReplyPlace k))
      (none_past layout cluster k t.shown (unit_at layout cluster t.shown (reply_place k)) (omega (arith, past, is.size)) refl);
}

class_shown : (layout : Layout) (cluster k : ℕ) (image : Image) (o : Option Message) → unit_at layout cluster image (reply_place k) ≡ o
    → class_of_reply (header_or_class o (class_at layout cluster image (reply_place k))) ≡ class_at layout cluster image (reply_place k)
unfolding unit_at class_at
class_shown layout cluster k image None is = refl
class_shown layout cluster k image (Some u) is = sym (valid_stale layout cluster (reply_place k) (bytes_of layout image (reply_place k)) u is)

pub has_class : (replies : List (Result Header Class)) (lacking : Lacking) (reply : Result Header Class)
    → slice_get replies lacking.place ≡ Some reply → lacking.class ≡ class_of_reply reply → HasClass replies lacking
has_class replies lacking reply at class layout cluster t is =
    let seen : reply ≡ header_at layout cluster t.shown (reply_place lacking.place) =
    is.seen lacking.place reply (omega (arith, is.size, slice_get_within replies lacking.place reply at)) at in
    class ∙ ap class_of_reply seen
    ∙ class_shown layout cluster lacking.place t.shown (unit_at layout cluster t.shown (reply_place lacking.place)) refl
