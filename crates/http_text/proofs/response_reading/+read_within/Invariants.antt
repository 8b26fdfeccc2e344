use Rattle.http_text.proofs.response_reading.+read_within.Given as goal

-- one more interim response was read
abbrev pub decreases-read_within : goal.decreases-read_within
decreases-read_within g l = l.room
