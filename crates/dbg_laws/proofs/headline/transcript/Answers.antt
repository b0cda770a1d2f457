use Rattle.dbg_laws.proofs.TranscriptLemmas as transcripts
use Rattle.dbg_laws.proofs.headline.transcript.Goals as goal

pub returns : goal.returns
returns k P J legal = transcripts.transcript P J legal
