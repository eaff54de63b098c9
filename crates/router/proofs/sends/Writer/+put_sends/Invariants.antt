-- Each call writes one send and calls itself for one fewer, so the measure, the number of sends, falls.
use Rattle.router.proofs.sends.Writer.+put_sends.Given as goal

abbrev pub decreases-put_sends : goal.decreases-put_sends
decreases-put_sends l = l.i
