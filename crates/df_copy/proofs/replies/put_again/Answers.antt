-- The unit that is made is the one that was read, and it is written into the place that it names.
use Rattle.std.{proofs.Common.{◌≡◌, List, [], ◌∷◌, take, Option, None, Some, ℕ, refl, sym, ap, subst, ◌∙◌}, specs.Prelude.{IsSome}}
use Rattle.{df_base.specs.Log.{Write}, df_buffers.specs.Sounds.{Holding}}
use Rattle.df_layout.specs.{declared.layout.Layout.{Layout}, declared.places.Zone.TheVariants.{ClientReplies}, Spans.{span_of}}
use Rattle.df_format.specs.{declared.header.Header.{Header}, Message.{Message, sectors_end, sectors_of}, Own.{place_in}, Valid.{IsUnit}}
use Rattle.df_places.specs.{Shelves.{HoldsMade, IsUnitMade}, Units.{put_events}}
use Rattle.df_copy.{specs.{Acts.{MayPutReply}, Units.{reply_events}}, proofs.Units.{reply_same}}

holds_some : (layout : Layout) (h : Header) (body : List ℕ) (held : Option Holding) → HoldsMade layout h body held → IsSome held
holds_some layout h body (Some held) made = refl
holds_some layout h body None made = absurd made

module _ (layout room : Layout)
    (h : Header) (body : List ℕ) (may : MayPutReply layout h body) (held : Holding) (made : IsUnitMade room h body held) where
  abbrev unit : Message
  unit = record { header = h; body = body }

  unit_is : held.unit ≡ unit
  unit_is = made.unit ∙ ap (λ (x : Header). message x) (reply_same layout h body may)
    where
      message : Header → Message
      message x = record { header = x; body = body }

  stands : IsUnit layout held.unit.header.cluster (place_in ClientReplies h.slot) held.unit
  stands = subst (λ (u : Message). IsUnit layout u.header.cluster (place_in ClientReplies h.slot) u) (sym unit_is) may.unit

  written : put_events layout (place_in ClientReplies h.slot) held ≡ reply_events layout unit
  written = ap (λ (u : Message). Write first (take (sectors_end u.header.size) held.bytes) ∷ []) made.unit
      ∙ ap (λ (bytes : List ℕ). Write first bytes ∷ []) (made.sectors ∙ ap sectors_of unit_is)
    where
      first : ℕ
      first = (span_of layout (place_in ClientReplies h.slot)).first
