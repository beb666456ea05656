-- An open, after its barrier: the mending, and the boot update after that, in one log.
use Rattle.std.proofs.Common.{◌≡◌, inl, inr, ℕ, ◌<◌, ◌^◌, List, ◌++◌, sym, ◌∙◌, subst}
use Rattle.df_theory.{specs.{Units.{Content, Header, Parts, Units}, Shape.{Shape}, View.{View, boot_of}, UnitLog.{UnitLog, now}, Rests.{IsDry, IsGoodLog, RestsOn}, Runs.{AtEach, Step, after_steps}, CopyPuts.{PutsCopies, update_steps}, WholeLaws.{IsStanding}, TidyLaws.{IsGoodWhole, IsTidy}, MendLaws.{copy_steps, header_steps, mend_steps}, Upgrades.{raise_steps}, Device.{units_log}}, proofs.Laws.{after_append, dry_copies, dry_headers, dry_quiet, each_append, each_weaker as each_moment, mend_law, mends_whole_law, stands_law}}
use Rattle.df_model.{specs.{Work.{Work, raised}, Memory.{memory_of}, Making.{boot_content}, Sense.{IsBacked}, Laws.{BacksOn, IsKeptBy, LeadsOn}, Boots.{DiskOpenLaw, IsMendedFor, MayOpenFor, OpenCommandLaw}}, proofs.{NoBlocks.{NoBlocks, blocks_stay, mend_no_blocks, spare_all}, Writing.{own_same}, Disks.{on_disk}, Boots.{stands_each, stands_last, update_backs, update_leads}}}

-- what leaves the view leaves one of two views
either_good : (sh : Shape) (v u : View) (l : UnitLog) → IsGoodLog sh v v l → IsGoodLog sh v u l
either_good sh v u l good = record { safe = good.safe; left = λ image left chance. elim (good.left image left chance) [ inl holds ↦ inl holds | inr holds ↦ inl holds ] }

module _ (sh : Shape) (spell : Parts → List ℕ) (log : UnitLog) (w : Work) (table : ℕ → Header) (headers : List Units)
    (copies : List (ℕ × Units)) (sum : ℕ) (opens : MayOpenFor sh spell log w table headers copies) (unspent : boot_of w.view < 2 ^ 62)
    (puts : PutsCopies (boot_content (memory_of sh spell w) sum)) where
  abbrev d : Content
  d = boot_content (memory_of sh spell w) sum

  abbrev u : Work
  u = raised w d

  abbrev first : List Step
  first = mend_steps headers copies

  abbrev mid : UnitLog
  mid = after_steps first log

  none : NoBlocks first
  none = mend_no_blocks table
      headers w.view.checkpoint.content opens.may.agreed.first opens.may.agreed.second copies opens.may.puts_headers opens.may.puts_copies

  mended : AtEach (IsGoodLog sh w.view w.view) log first × RestsOn sh mid w.view
  mended = mend_law sh log w.view table headers copies opens.may

  dry : IsDry mid
  dry = subst IsDry (sym (after_append (header_steps headers) (copy_steps copies) log))
      (dry_copies copies (after_steps (header_steps headers) log) (dry_headers headers log opens.dry))

  behind : IsMendedFor sh spell mid w
  behind = record {
    sense = opens.sense;
    mended = record { rests = mended.1; quiet = dry_quiet mid dry; whole = mends_whole_law sh log w.view table headers copies opens.may };
    dry = dry;
    written = λ r at a b is. blocks_stay first log none a ∙ opens.written r at a b is;
  }

  good : AtEach (IsGoodLog sh w.view u.view) log first
  good = each_moment (IsGoodLog sh w.view w.view) (IsGoodLog sh w.view u.view) (either_good sh w.view u.view) first log mended.0

  ends : after_steps (first ++ update_steps puts) log ≡ after_steps (update_steps puts) mid
  ends = after_append first (update_steps puts) log

  pub open_leads : LeadsOn sh spell log w u (raise_steps headers copies puts)
  open_leads = let on = update_leads sh spell mid w sum behind unspent puts in record {
    leads = record {
      leads = record {
        moments = each_append (IsGoodLog sh w.view u.view) first (update_steps puts) log good on.leads.leads.moments;
        rests = rw (sym ends) at on.leads.leads.rests;
      };
      tidy = rw (sym ends) at on.leads.tidy;
    };
    keeps = rw (sym ends) at on.keeps;
  }

  pub open_backs : IsBacked log w → BacksOn sh log w u (raise_steps headers copies puts)
  open_backs backed = let stands = stands_law log w.view first backed.standing (spare_all w.view first none) in
      let last = stands_last w.view first log stands in let half : IsBacked mid w = record {
        standing = last;
        live = λ a c is. own_same (now log) (now mid) a c (blocks_stay first log none a) (backed.live a c is);
        captured = λ r at a c is. own_same (now log) (now mid) a c (blocks_stay first log none a) (backed.captured r at a c is);
      } in let on = update_backs sh spell mid w sum behind unspent puts half in record {
        stands = record {
          moments = each_append (IsGoodWhole sh w.view u.view)
              first (update_steps puts) log (stands_each sh w.view d first log good stands) on.stands.moments;
          standing = rw (sym ends) at on.stands.standing;
        };
        backed = rw (sym ends) at on.backed;
      }

pub open_command_law : OpenCommandLaw
open_command_law sh spell log w table headers copies sum steps opens unspent does =
    let u = raised w (boot_content (memory_of sh spell w) sum) in
    subst (λ (ss : List Step). LeadsOn sh spell log w u ss × (IsBacked log w → BacksOn sh log w u ss)) (sym does.are)
    (open_leads sh spell log w table headers copies sum opens unspent does.puts, open_backs sh spell log w table headers copies sum opens unspent does.puts)

pub disk_open_law : DiskOpenLaw
disk_open_law f sh spell log w table headers copies sum events format is_log opens unspent does =
    on_disk f sh spell log w (raised w (boot_content (memory_of sh spell w) sum)) does.steps events format is_log does.are
    (open_command_law sh spell (units_log f log) w table headers copies sum does.steps opens unspent does.does)
