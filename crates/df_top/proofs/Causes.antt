-- The causes of what is printed, of a file that isn't opened, and of a session.
use Rattle.{std.proofs.Common.{◌≡◌, ℕ, Bool, List, [], ◌∷◌, Option, Some, None, refl, subst}, df_base.specs.Causes.{Blamed, Rose}}
use Rattle.{df_model.specs.{declared.errors.OpenError.{OpenError}, Faults.{is_open_fault}}, df_layout.specs.declared.damage.Mend.{Mend}}
use Rattle.df_program.proofs.Laws.{AreApart, fault_causes, open_causes, refusal_ends, text_causes, text_ends}
use Rattle.df_top.specs.{Outside.{Blames, HasCauses, Outside, PrintsLine, counts}, Refusing.{PrintsOpenError}, Reporting.{status_of}, Lines.{Turned, act_of}, Session.{Ended, EndsWith, SessionState}, declared.status.Status.{Status}, declared.status.Status.TheVariants.{Done, Refused, DiskFault, Memory, ReadFault, Words, WriteFault}}
use Rattle.{df_pace.specs.declared.pace.Pace.{Pace}, df_session.specs.Session.{Act}}

-- no fault of a run is another one
apart : AreApart DiskFault ReadFault WriteFault
apart = record { disk_source = λ no. cc; sink_disk = λ no. cc; sink_source = λ no. cc }

-- a status that no fault is, and neither want of memory nor other words
pub record IsCalm (given : Status) : Type 0 where
  pub disk : given ≡ DiskFault → ⊥
  pub source : given ≡ ReadFault → ⊥
  pub memory : given ≡ Memory → ⊥
  pub words : given ≡ Words → ⊥

pub calm_refused : IsCalm Refused
calm_refused = record { disk = λ no. cc; source = λ no. cc; memory = λ no. cc; words = λ no. cc }

pub calm_done : IsCalm Done
calm_done = record { disk = λ no. cc; source = λ no. cc; memory = λ no. cc; words = λ no. cc }

pub calm_report : (mends : List Mend) → IsCalm (status_of mends)
calm_report [] = calm_done
calm_report (m ∷ more) = record { disk = λ no. cc; source = λ no. cc; memory = λ no. cc; words = λ no. cc }

pub never_printed : (line : List ℕ) (given : Status) (old new : Option (List ℕ)) (status : Status)
    → IsCalm given → PrintsLine line given old new status → (status ≡ Memory → ⊥) × (status ≡ Words → ⊥)
never_printed line given old new status calm prints = (text_ends WriteFault line given Memory old new status prints calm.memory (λ no. cc), text_ends WriteFault line given Words old new status prints calm.words (λ no. cc))

module _ (disk disk_now source sink sink_now : ℕ) (old new : Option (List ℕ)) (status : Status) where
  abbrev Causes : Type 0
  Causes = HasCauses (counts disk source sink) (counts disk_now source sink_now) status

  pub line_causes : (line : List ℕ) (given : Status)
      → IsCalm given → disk_now ≡ disk → PrintsLine line given old new status → Blames WriteFault sink sink_now status → Causes
  line_causes line given calm same printed blame = text_causes DiskFault ReadFault WriteFault apart
      (counts disk source sink) (counts disk_now source sink_now) old new status refl blame line given calm.disk calm.source same printed

  pub failed_causes : status ≡ DiskFault → Rose disk disk_now → Blames WriteFault sink sink_now status → Causes
  failed_causes is rose blame = fault_causes
      DiskFault ReadFault WriteFault apart (counts disk source sink) (counts disk_now source sink_now) old new status refl blame is rose

-- ---- a file isn't opened

module _ {e : OpenError} {old new : Option (List ℕ)} {status : Status} (prints : PrintsOpenError e old new status) where
  -- what that blames
  pub refused_causes : {disk disk_now sink sink_now : ℕ} (source : ℕ) → Blamed (is_open_fault e) disk disk_now
      → Blames WriteFault sink sink_now status → HasCauses (counts disk source sink) (counts disk_now source sink_now) status
  refused_causes {disk = disk} {disk_now = disk_now} {sink = sink} {sink_now = sink_now} source blamed blame =
      open_causes DiskFault ReadFault WriteFault apart (counts disk source sink) (counts disk_now source sink_now) old new status refl blame ℕ
      e Refused (λ no. cc) (λ no. cc) blamed prints

  -- neither want of memory nor other words are answered of it
  pub refused_never : (status ≡ Memory → ⊥) × (status ≡ Words → ⊥)
  refused_never = (
    refusal_ends Refused DiskFault WriteFault Memory e old new status prints (λ no. cc) (λ no. cc) (λ no. cc),
    refusal_ends Refused DiskFault WriteFault Words e old new status prints (λ no. cc) (λ no. cc) (λ no. cc),
  )

-- nor at the end of a session

no_memory : (n : ℕ) (old new : Outside) (turns : List Turned) (failed : Option Act) (cut : Bool)
    → EndsWith n old new turns failed cut Memory → ⊥
no_memory n old new turns None cut ends = ends
no_memory n old new turns (Some a) cut ends = ends

no_words : (n : ℕ) (old new : Outside) (turns : List Turned) (failed : Option Act) (cut : Bool)
    → EndsWith n old new turns failed cut Words → ⊥
no_words n old new turns None cut ends = ends
no_words n old new turns (Some a) cut ends = ends

pub ended_never : (pace : Pace) (bound : ℕ) (origin now : SessionState) (status : Status)
    → Ended pace bound origin now status → (status ≡ Memory → ⊥) × (status ≡ Words → ⊥)
ended_never pace bound origin now status e =
    let with : Status → Type 0 = EndsWith origin.lines origin.outside now.outside e.turns (act_of e.failing) e.cut in (
      λ is. no_memory origin.lines origin.outside now.outside e.turns (act_of e.failing) e.cut (subst with is e.written),
      λ is. no_words origin.lines origin.outside now.outside e.turns (act_of e.failing) e.cut (subst with is e.written),
    )
