-- Requests and responses as two forms of message: which bytes are a head, and which are a message.
use Rattle.std.specs.Prelude.{◌≡◌, ℕ, zero, suc, ◌≤◌, ◌⊎◌, Bool, true, false, List, [], ◌++◌, length, map, Result, Ok, if◌then◌else◌}
use Rattle.httparse.specs.Grammar.{Field, RequestHead, ReadsRequest, print_request, EndsInTarget, ResponseHead, ReadsResponse, print_response, status_code}
use Rattle.httparse.specs.Spans.{name_and_value}
use Rattle.http_text.specs.declared.fault.ReadFault.{ReadFault}
use Rattle.http_text.specs.declared.limits.TheConstants.{INTERIM_LIMIT}
use Rattle.http_text.specs.Chunks.{IsChunkedBody}
use Rattle.http_text.specs.Message.{StartLine, request_line, status_line, Head, Message, code_of, length_of, body_length, head_limit, field_limit}
use Rattle.http_text.specs.Judging.{has_method_head, is_bodiless, is_interim, has_chunks, judge_head, judge_response}

pub record Form : Type 1 where
  -- the heads of httparse's grammar: which bytes they read and print, their first line and their field lines
  pub Tree : Type 0
  pub Reads : List ℕ → Tree → List ℕ → Type 0
  pub print : Tree → List ℕ
  pub start : Tree → StartLine
  pub lines : Tree → List Field
  -- how many bytes follow a head, and whether it is refused
  pub body : Head → ℕ
  pub judge : Head → Result ℕ ReadFault
  -- a part that isn't refused yet, though no bytes may complete it
  pub IsLate : List ℕ → Type 0
  -- whether bytes that are refused as a head begin with the method HEAD
  pub has_method_head : List ℕ → Bool

-- only the end of a target decides whether the target is UTF-8
abbrev pub request_form : Form
request_form = record {
  Tree = RequestHead;
  Reads = ReadsRequest;
  print = print_request;
  start = λ (tree : RequestHead). request_line tree.method tree.target tree.minor;
  lines = λ (tree : RequestHead). tree.fields;
  body = λ head. body_length (length_of head);
  judge = judge_head;
  IsLate = EndsInTarget;
  has_method_head = has_method_head;
}

-- some have no body, whatever they state; chunks aren't counted
abbrev pub response_form : Form
response_form = record {
  Tree = ResponseHead;
  Reads = ReadsResponse;
  print = print_response;
  start = λ (tree : ResponseHead). status_line tree.minor (status_code tree);
  lines = λ (tree : ResponseHead). tree.fields;
  body = λ head. if is_bodiless (code_of head.start) then 0 else body_length (length_of head);
  judge = judge_response;
  IsLate = λ bytes. ⊥;
  has_method_head = λ bytes. false;
}

module _ (F : Form) where
  -- the parts of a head of the grammar
  abbrev pub head_in : F.Tree → Head
  head_in tree = record { start = F.start tree; fields = map name_and_value (F.lines tree) }

  -- the bytes are a head of the grammar within the limits, and these are its parts
  pub record IsHead (bytes : List ℕ) (head : Head) : Type 0 where
    pub tree : F.Tree
    pub reads : F.Reads bytes tree []
    pub size : length bytes ≤ head_limit
    pub fields : length (F.lines tree) ≤ field_limit
    pub parts : head ≡ head_in tree

  -- the bytes are a head, followed by exactly the body that it states
  pub record IsMessage (bytes : List ℕ) (m : Message) : Type 0 where
    pub front : List ℕ
    pub head : IsHead front m.head
    pub split : bytes ≡ front ++ m.body
    pub body : length m.body ≡ F.body m.head

  -- a message whose head isn't refused
  abbrev pub IsAcceptable : Message → Type 0
  IsAcceptable m = (n : ℕ) × (F.judge m.head ≡ Ok n)

-- requests

abbrev pub IsRequestHead : List ℕ → Head → Type 0
IsRequestHead = IsHead request_form

abbrev pub IsRequestMessage : List ℕ → Message → Type 0
IsRequestMessage = IsMessage request_form

abbrev pub IsAccepted : Message → Type 0
IsAccepted = IsAcceptable request_form

-- responses

abbrev pub IsResponseHead : List ℕ → Head → Type 0
IsResponseHead = IsHead response_form

-- what follows a response's head and the body whose length it states: nothing, or a body in chunks
abbrev pub IsBehind : (has_chunks : Bool) → (stated : Message) → List ℕ → Message → Type 0
IsBehind false stated behind m = (behind ≡ []) × (m ≡ stated)
IsBehind true stated behind m = (m.head ≡ stated.head) × IsChunkedBody behind m.body

-- a message whose head isn't refused, and a body in chunks behind it if its head says so
pub record IsOneResponse (bytes : List ℕ) (m : Message) : Type 0 where
  pub front : List ℕ
  pub behind : List ℕ
  pub stated : Message
  pub split : bytes ≡ front ++ behind
  pub is_message : IsMessage response_form front stated
  pub accepted : IsAcceptable response_form stated
  pub body : IsBehind (has_chunks stated.head) stated behind m

-- ---- interim responses

-- the greatest number of interim responses before a response
abbrev pub interim_limit : ℕ
interim_limit = INTERIM_LIMIT

pub record IsInterim (bytes : List ℕ) : Type 0 where
  pub message : Message
  pub is : IsOneResponse bytes message
  pub interim : is_interim message.head ≡ true

-- at most so many interim responses, and bytes of this kind behind them, before which as many more may come
abbrev pub AfterInterims : (room : ℕ) → (ℕ → List ℕ → Type 0) → List ℕ → Type 0
AfterInterims zero P bytes = P zero bytes
AfterInterims (suc room) P bytes =
    P (suc room) bytes
    ⊎ ((front rest : List ℕ) × IsInterim front × (bytes ≡ front ++ rest) × AfterInterims room P rest)

-- a response that isn't interim
abbrev pub IsFinalResponse : Message → ℕ → List ℕ → Type 0
IsFinalResponse m room bytes = IsOneResponse bytes m × (is_interim m.head ≡ false)

-- A response is read over the interim responses before it
abbrev pub IsResponseMessage : List ℕ → Message → Type 0
IsResponseMessage bytes m = AfterInterims interim_limit (IsFinalResponse m) bytes
